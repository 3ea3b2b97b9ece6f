-- Each byte is asked whether it may be stored.
use Rattle.std.proofs.Common.{◌∙◌, rules, tests}
use Rattle.std.proofs.lemmas.Iterator.{YieldsList-from_slice}
use Rattle.std.proofs.lemmas.Iterator.Search.{all_from_yields_List}
use Rattle.model.specs.TagList.{stored_byte}
use Rattle.tag_list.proofs.KeyBytes.{stored_long, stored_short}
use Rattle.tag_list.proofs.key.is_stored_key.Goals as goal

pub returns-then-key-le-MAX_KEY : goal.returns-then-key-le-MAX_KEY
returns-then-key-le-MAX_KEY c =
    let key = c.args.key.now in
    all_from_yields_List stored_byte _ _ _ c.all.ensures.ran (YieldsList-from_slice key cc) (λ x b q k. search (rules, tests))
    ∙ stored_short key c.if-key-le-MAX_KEY.true

pub returns-else-key-le-MAX_KEY : goal.returns-else-key-le-MAX_KEY
returns-else-key-le-MAX_KEY c = stored_long c.args.key.now c.if-key-le-MAX_KEY.false
