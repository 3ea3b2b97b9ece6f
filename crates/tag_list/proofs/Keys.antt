-- Keys of tags and looking them up: the first key of an ascending list is below the others, and what a key gives at the first tag, behind it,
-- and where it is below all keys.
use mathlib.Core.Path.{◌≡◌, refl, sym, ◌∙◌}
use mathlib.Core.Logic.{⊎_elim, ◌≢◌}
use mathlib.Core.List.Memᴰ
use mathlib.Core.List.{List, [], ◌∷◌, Memᴰ}
use Rattle.std.specs.Prelude.{Some, None}
use Rattle.std.specs.declared.cmp.Ordering.TheVariants.{Less, Equal, Greater}
use Rattle.model.specs.Bytes.{Bytes, compare_bytes}
use Rattle.model.specs.Statements.{Ascending}
use Rattle.model.specs.TagList.{Tag, compare_tags, look_up}
use Rattle.text.proofs.Order.{bytes_order, same_bytes_true, same_bytes_false}
use Rattle.text.proofs.Ascending.{less_irrefl, greater_less}

-- ------------------------------------------------------------------ keys

pub less_differs : (j k : Bytes) → compare_bytes j k ≡ Less → j ≢ k
less_differs j k e d = less_irrefl bytes_order k (rw d at e)

pub greater_differs : (j k : Bytes) → compare_bytes j k ≡ Greater → j ≢ k
greater_differs j k e d = less_differs k j (greater_less bytes_order j k e) (sym d)

pub same_key : (j k : Bytes) → compare_bytes j k ≡ Equal → j ≡ k
same_key = bytes_order.same

-- the key is below those of all tags
abbrev pub KeyBelow : Bytes → List Tag → Type 0
KeyBelow k ts = (t : Tag) → Memᴰ t ts → compare_bytes k t.key ≡ Less

pub key_below_cons : (k : Bytes) (t : Tag) (ts : List Tag) → compare_bytes k t.key ≡ Less → KeyBelow t.key ts → KeyBelow k (t ∷ ts)
key_below_cons k t ts e b u m =
    ⊎_elim
    (λ (d : u ≡ t). rw d e)
    (λ (n : Memᴰ u ts). bytes_order.trans k t.key u.key e (b u n))
    (Memᴰ.cases_cons m)

-- of an ascending list the first key is below the others
pub first_below : (t : Tag) (ts : List Tag) → Ascending compare_tags (t ∷ ts) → KeyBelow t.key ts
unfolding Ascending
first_below t [] a = λ u m. absurd (Memᴰ.not-nil m)
first_below t (u ∷ us) a = key_below_cons t.key u us a.0 (first_below u us a.1)

-- ------------------------------------------------------------------ looking up

pub look_none : (k : Bytes) → look_up k [] ≡ None
unfolding look_up
look_none k = refl

pub look_first : (k : Bytes) (t : Tag) (ts : List Tag) → k ≡ t.key → look_up k (t ∷ ts) ≡ Some t.value
unfolding look_up
look_first k t ts e = rw ((same_bytes_true k t.key).1 e)

pub look_past : (k : Bytes) (t : Tag) (ts : List Tag) → k ≢ t.key → look_up k (t ∷ ts) ≡ look_up k ts
unfolding look_up
look_past k t ts n = rw (same_bytes_false k t.key n)

pub look_further : (k : Bytes) (t : Tag) (ts us : List Tag) → look_up k ts ≡ look_up k us → look_up k (t ∷ ts) ≡ look_up k (t ∷ us)
unfolding look_up
look_further k t ts us e = rw e

pub look_below : (k : Bytes) (ts : List Tag) → KeyBelow k ts → look_up k ts ≡ None
look_below k [] b = look_none k
look_below k (t ∷ ts) b =
    look_past k t ts (less_differs k t.key (b t (Memᴰ.head refl))) ∙ look_below k ts (λ u m. b u (Memᴰ.tail m))

-- a key at or below the first of an ascending list is not among the others
pub look_behind : (k : Bytes) (t : Tag) (ts : List Tag) → Ascending compare_tags (t ∷ ts) → k ≡ t.key → look_up k ts ≡ None
look_behind k t ts a e = look_below k ts (rw e (first_below t ts a))

pub look_before : (k : Bytes) (t : Tag) (ts : List Tag) → Ascending compare_tags (t ∷ ts) → compare_bytes k t.key ≡ Less → look_up k (t ∷ ts) ≡ None
look_before k t ts a e = look_below k (t ∷ ts) (key_below_cons k t ts e (first_below t ts a))
