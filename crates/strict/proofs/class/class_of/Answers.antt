-- One test, computed over the whole table, shows all of its entries.
use Rattle.std.proofs.Common.{◌≡◌, refl, Bool, true, ◌&&◌, List, ◌∷◌, ◌++◌, ℕ, ◌/◌, ◌%◌, eqb, get_or, replicate, rules}
use Rattle.std.proofs.Math.Bool.{beq}
use Rattle.std.specs.Cmp.{booleans_Decides}
use Rattle.model.specs.Strict.{digit, hex_letter, letter, visible, printable}
use Rattle.std.proofs.lemmas.Bool.{agree_below_at, and_parts}
use Rattle.strict.specs.Class.{Classes}
use Rattle.strict.proofs.class.class_of.Goals as goal

-- the test of the entry n at the byte x
abbrev right : ℕ → ℕ → Bool
right x n =
    beq (eqb (n % 2) 1) (digit x)
    && (beq (eqb (n / 2 % 2) 1) (hex_letter x)
    && (beq (eqb (n / 4 % 2) 1) (letter x)
    && (beq (eqb (n / 8 % 2) 1) (visible x)
    && beq (eqb (n / 16 % 2) 1) (printable x))))

same : {a b : Bool} → beq a b ≡ true → a ≡ b
same {a} {b} e = (booleans_Decides a b).0 e

classes : (x n : ℕ) → right x n ≡ true → Classes x n
classes x n e =
    let p = and_parts _ _ e in
    let q = and_parts _ _ p.1 in
    let r = and_parts _ _ q.1 in
    let s = and_parts _ _ r.1 in
    record {
      digits = same p.0;
      hex_letters = same q.0;
      letters = same r.0;
      visibles = same s.0;
      printables = same s.1;
    }

-- the table, by its runs
table : List ℕ
table =
    replicate 32 0 ++ (16 ∷ replicate 15 24) ++ replicate 10 25 ++ replicate 7 24 ++ replicate 6 30 ++ replicate 20 28 ++ replicate 6 24
    ++ replicate 26 28
    ++ replicate 4 24
    ++ replicate 129 0

pub returns : goal.returns
unfolding table
returns c = classes c.args.x (get_or table c.args.x 0) (agree_below_at (λ x. right x (get_or table x 0)) (λ _. true) 256 c.args.x refl (search rules))
