-- Texts appended to an output: nothing, a text behind a text, and what is left of a text whose front is appended.
use mathlib.Core.Path.{◌≡◌, refl, sym, subst, ◌∙◌}
use mathlib.Core.List.{[], ◌++◌}
use Prim.Native.Nat.{ℕ, ◌+◌, ◌≤◌, ◌<◌}
use native.Mathlib.Omega.{arith}
use lib.ListN.{length, length-append}
use Rattle.model.specs.Bytes.{Bytes, put}
use Rattle.text.specs.Appending.{Appends}
use Rattle.text.proofs.Put.{put_none, put_append}

pub appends_none : (out : Bytes) (at : ℕ) → at ≤ 18446744073709551615 → Appends out at [] at out
appends_none out at h = record { place = omega arith; kept = refl; output = λ f. sym (put_none out at) }

-- a text behind a text
pub appends_both : {out : Bytes} {at : ℕ} {t u : Bytes} {p : ℕ} {o : Bytes} {r : ℕ} {o' : Bytes}
    → Appends out at t p o → Appends o p u r o' → Appends out at (t ++ u) r o'
appends_both {out} {at} {t} {u} {p} {o} {r} {o'} v w =
    let size = length-append t u in
    record {
      place = omega (arith, v.place, w.place);
      kept = w.kept ∙ v.kept;
      output = λ fits.
          let place : p ≡ at + length t = omega (arith, v.place) in
          w.output (omega (arith, v.kept)) ∙ rw (place, v.output (omega arith)) (put_append out at t u (omega arith));
    }

-- a text by another form
pub appends_as : {out : Bytes} {at : ℕ} {t u : Bytes} {r : ℕ} {o : Bytes} → t ≡ u → Appends out at t r o → Appends out at u r o
appends_as {out} {at} {r = r} {o = o} e v = subst (λ (x : Bytes). Appends out at x r o) e v

-- o is `out` with a front of the whole appended up to q: the rest appended there makes the whole
pub record Rest (out : Bytes) (at : ℕ) (whole o : Bytes) (q : ℕ) (rest : Bytes) : Type 0 where
  pub place : q ≤ 18446744073709551615
  pub kept : length o ≡ length out
  pub makes : (r : ℕ) (o' : Bytes) → Appends o q rest r o' → Appends out at whole r o'

pub rest_begin : {out : Bytes} {at : ℕ} {whole : Bytes} → at ≤ 18446744073709551615 → Rest out at whole out at whole
rest_begin h = record { place = h; kept = refl; makes = λ r o a. a }

pub rest_turn : {out : Bytes} {at : ℕ} {whole o : Bytes} {q : ℕ} {rest t u : Bytes} {p : ℕ} {o' : Bytes}
    → Rest out at whole o q rest → rest ≡ t ++ u → Appends o q t p o' → Rest out at whole o' p u
rest_turn k e v = record {
  place = omega (arith, v.place);
  kept = v.kept ∙ k.kept;
  makes = λ r o w. k.makes r o (rw e (appends_both v w));
}

pub rest_end : {out : Bytes} {at : ℕ} {whole o : Bytes} {q : ℕ} {rest : Bytes} → Rest out at whole o q rest → rest ≡ [] → Appends out at whole q o
rest_end {o = o} {q = q} k e = k.makes q o (rw e (appends_none o q k.place))

-- a text measured on any output, and appended to the front of one that has room for it
module _ {None : Bytes} {t : Bytes} {size : ℕ} {o : Bytes} (m : Appends None 0 t size o) (room : ℕ) where
  pub measured_not : room < size → room < length t
  measured_not h = omega (arith, m.place)

  pub measured_fits : size ≤ room → room < 18446744073709551615 → length t ≤ room
  measured_fits h k = omega (arith, m.place)

pub appended : {out t : Bytes} {r : ℕ} {o : Bytes} → Appends out 0 t r o → length t ≤ length out → length out ≤ 18446744073709551615
    → (r ≡ length t) × (o ≡ put out 0 t)
appended v h k = (omega (arith, v.place), v.output (omega arith))
