-- The length and the count, and then the tags decide.
use Rattle.std.proofs.Common.{◌∙◌, arith}
use Rattle.std.proofs.lemmas.Bool.{lt-leb}
use Rattle.tag_list.proofs.Tested.{block_length, block_count, block_tags}
use Rattle.tag_list.proofs.test.is_tag_list.Goals as goal

pub returns-then-b-ne-TAGS_LENGTH : goal.returns-then-b-ne-TAGS_LENGTH
returns-then-b-ne-TAGS_LENGTH c = block_length c.args.b.now (λ i. omega (arith, c.type_inv.b i)) c.if-b-ne-TAGS_LENGTH.true

pub returns-then-count-le-MAX_TAGS : goal.returns-then-count-le-MAX_TAGS
returns-then-count-le-MAX_TAGS c =
    c.are_tags.ensures
    ∙ rw c.read32-count.ensures.0 (block_tags c.args.b.now (λ i. omega (arith, c.type_inv.b i)) c.if-b-ne-TAGS_LENGTH.false (omega arith))

pub returns-else-count-le-MAX_TAGS : goal.returns-else-count-le-MAX_TAGS
returns-else-count-le-MAX_TAGS c =
    lt-leb c.read32-count.result 32 c.if-count-le-MAX_TAGS.false
    ∙ block_count c.args.b.now (λ i. omega (arith, c.type_inv.b i)) c.if-b-ne-TAGS_LENGTH.false (omega arith)
