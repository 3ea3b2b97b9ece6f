-- A part of a graph name is within the sizes where the whole is: its names are among the whole's.
use mathlib.Core.Path.{◌≡◌, refl, ap}
use mathlib.Core.Logic.{◌⊎◌, inl, inr, ⊎_elim}
use mathlib.Core.List.Memᴰ
use mathlib.Core.List.{List, [], ◌∷◌, ◌++◌, Memᴰ}
use Rattle.std.specs.Prelude.{Option, Some}
use Prim.Native.Nat.{ℕ, ◌≤◌}
use native.Mathlib.Omega.{arith}
use lib.ListN.{length, length-append}
use Rattle.model.specs.declared.Kind.{Kind}
use Rattle.model.specs.Questions.{pairs_of}
use Rattle.model.specs.Bytes.{Bytes}
use Rattle.model.specs.Record.{Pair, GraphName, names, judge, own_name, pair_names}
use Rattle.record.proofs.Names.{all_names, names_ascending, names_members, own_listed, pair_listed}
use Rattle.record.proofs.Sizes.{Sizes, judge_sizes, sizes_judge, short_names}
use Rattle.text.proofs.Order.{bytes_order}
use Rattle.text.proofs.Total.{total, total_count, total_bodies, ascending_once, total_part}

abbrev pub Among : {A : Type 0} → List A → List A → Type 0
Among {A} xs ys = (z : A) → Memᴰ z xs → Memᴰ z ys

-- fewer names and fewer pairs are within the sizes as well
pub judge_fewer : (g h : GraphName) → Among (all_names h) (all_names g) → length h.subgraph ≤ length g.subgraph
    → length h.translation ≤ length g.translation → judge g ≡ 0 → judge h ≡ 0
judge_fewer g h m s t e = sizes_judge h (fits (judge_sizes g e))
  where
    among : Among (names h) (names g)
    among n k = (names_members g n).1 (m n ((names_members h n).0 k))

    fewer : (w : Bytes → ℕ) → total w (names h) ≤ total w (names g)
    fewer w = total_part w (names h) (names g) (ascending_once bytes_order (names h) (names_ascending h)) among

    fits : Sizes g → Sizes h
    fits z = record {
      short = (short_names (names h)).1 (λ n k. (short_names (names g)).0 z.short n (among n k));
      count = omega (arith, total_count (names h), total_count (names g), fewer (λ n. 1));
      subgraphs = omega arith;
      translations = omega arith;
      room = omega (arith, total_bodies (names h), total_bodies (names g), fewer length);
    }

-- ------------------------------------------------------------------ the first pairs of each kind

pair_names_append : (s t : List Pair) → pair_names (s ++ t) ≡ pair_names s ++ pair_names t
pair_names_append [] t = refl
pair_names_append (p ∷ ps) t = ap (λ (ns : List Bytes). p.from ∷ p.to ∷ ns) (pair_names_append ps t)

pub judge_front : (n : Option Bytes) (s s' t t' : List Pair) → judge (record { name = n; subgraph = s ++ s'; translation = t ++ t' }) ≡ 0
    → judge (record { name = n; subgraph = s; translation = t }) ≡ 0
judge_front n s s' t t' e =
    judge_fewer (record { name = n; subgraph = s ++ s'; translation = t ++ t' }) (record { name = n; subgraph = s; translation = t })
    among (rw length-append (omega arith)) (rw length-append (omega arith)) e
  where
    front : (ps qs : List Pair) → Among (pair_names ps) (pair_names (ps ++ qs))
    front ps qs z m = rw (pair_names_append ps qs) (Memᴰ.append_left (pair_names qs) m)

    among : Among (own_name n ++ pair_names s ++ pair_names t) (own_name n ++ pair_names (s ++ s') ++ pair_names (t ++ t'))
    among z m =
        ⊎_elim
        (λ (k : Memᴰ z (own_name n ++ pair_names s)). Memᴰ.append_left (pair_names (t ++ t'))
        (⊎_elim
        (λ (o : Memᴰ z (own_name n)). Memᴰ.append_left (pair_names (s ++ s')) o)
        (λ (o : Memᴰ z (pair_names s)). Memᴰ.append_right (own_name n) (front s s' z o))
        (Memᴰ.append_cases (own_name n) k)))
        (λ (k : Memᴰ z (pair_names t)). Memᴰ.append_right (own_name n ++ pair_names (s ++ s')) (front t t' z k))
        (Memᴰ.append_cases (own_name n ++ pair_names s) m)

-- a pair's names are among the names
pair_mentioned : (ps : List Pair) (p : Pair) → Memᴰ p ps → Memᴰ p.from (pair_names ps) × Memᴰ p.to (pair_names ps)
pair_mentioned [] p m = absurd (Memᴰ.not-nil m)
pair_mentioned (q ∷ qs) p m = go (Memᴰ.cases_cons m) (pair_mentioned qs p)
  where
    go : (p ≡ q) ⊎ Memᴰ p qs → (Memᴰ p qs → Memᴰ p.from (pair_names qs) × Memᴰ p.to (pair_names qs))
        → Memᴰ p.from (pair_names (q ∷ qs)) × Memᴰ p.to (pair_names (q ∷ qs))
    go (inl e) rest = (Memᴰ.head (ap (λ (x : Pair). x.from) e), Memᴰ.tail (Memᴰ.head (ap (λ (x : Pair). x.to) e)))
    go (inr n) rest = let r = rest n in (Memᴰ.tail (Memᴰ.tail r.0), Memᴰ.tail (Memᴰ.tail r.1))

pub own_named : (g : GraphName) (n : Bytes) → g.name ≡ Some n → Memᴰ n (names g)
own_named g n e = let m : Memᴰ n (own_name g.name) = rw e (Memᴰ.head refl) in own_listed g n m

pub pair_named : (g : GraphName) (k : Kind) (p : Pair) → Memᴰ p (pairs_of k g) → Memᴰ p.from (names g) × Memᴰ p.to (names g)
pair_named g k p m = let r = pair_mentioned (pairs_of k g) p m in (pair_listed g k p.from r.0, pair_listed g k p.to r.1)
