-- Both numbers, one behind the other, fill the entry.
use Rattle.std.proofs.Common.{ℕ, refl, ◌∙◌, ◌++◌, replicate, arith}
use Rattle.model.specs.Numbers.{le32}
use Rattle.text.proofs.Put.{put_append, put_whole}
use Rattle.tag_edits.proofs.exchange.entry_of.Goals as goal

pub returns : goal.returns
returns c =
    let k = le32 c.args.key in
    let v = le32 c.args.value in
    let room = replicate {A = ℕ} 8 0 in
    c.write32.ensures.1 ∙ rw (c.write32-p.ensures.1, c.write32-p.ensures.0, c.filled-entry.ensures) (put_append room 0 k v (omega arith) ∙ put_whole room (k ++ v) refl)
