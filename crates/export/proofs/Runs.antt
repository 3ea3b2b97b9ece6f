-- Pairs written one by one: the text of the first, and those of the ones left.
use mathlib.Core.Path.{◌≡◌}
use mathlib.Core.List.{List, [], ◌∷◌, ◌++◌}
use Prim.Native.Nat.{ℕ}
use Rattle.model.specs.Bytes.{Bytes}
use Rattle.model.specs.Record.{Pair}
use Rattle.export.specs.Texts.{pair_text, pair_texts}

module _ (before : Bytes) (between : ℕ) (after : Bytes) where
  pub texts_more : {ps rest : List Pair} {p : Pair} → ps ≡ p ∷ rest → pair_texts before between after ps ≡ pair_text before between after p.from p.to ++ pair_texts before between after rest
  unfolding pair_texts
  texts_more e = rw e

  pub texts_none : {ps : List Pair} → ps ≡ [] → pair_texts before between after ps ≡ []
  unfolding pair_texts
  texts_none e = rw e
