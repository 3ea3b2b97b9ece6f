-- Tags set where a value is present and removed where it is absent: one after the other, or the absent ones first.
use Rattle.std.specs.Prelude.{◌≡◌, true, not, ◌&&◌, List, [], ◌∷◌, ℕ, ◌≤◌, length, count_by, Option, Some, None}
use Rattle.std.specs.Option.{option_copied}
use Rattle.model.specs.Text.{text}
use Rattle.model.specs.Bytes.{Bytes}
use Rattle.model.specs.Opening.{is_some}
use Rattle.model.specs.Written.{fits}
use Rattle.model.specs.TagList.{Tag, look_up, set_tag, remove_tag, set_or_remove, max_key, max_value, stored_key}
use Rattle.graph_tags.specs.declared.change.Change.{Change}

abbrev pub value_of : Change → Option Bytes
value_of c = option_copied c.value

-- a key that is short
abbrev pub HasKey : Change → Type 0
HasKey c = length c.key.now ≤ max_key

-- a key and a value that may be stored
abbrev pub IsFit : Change → Type 0
IsFit c = (stored_key c.key.now ≡ true) × (fits (value_of c) max_value ≡ true)

-- ------------------------------------------------------------------ one tag

abbrev pub remove_absent : Bytes → Option Bytes → List Tag → List Tag
remove_absent k None ts = remove_tag k ts
remove_absent k (Some v) ts = ts

abbrev pub set_present : Bytes → Option Bytes → List Tag → List Tag
set_present k None ts = ts
set_present k (Some v) ts = set_tag k v ts

-- ------------------------------------------------------------------ several

-- those that have no value removed, and those that have one set
abbrev pub cleared : List Change → List Tag → List Tag
cleared [] ts = ts
cleared (c ∷ cs) ts = cleared cs (remove_absent c.key.now (value_of c) ts)

abbrev pub filled : List Change → List Tag → List Tag
filled [] ts = ts
filled (c ∷ cs) ts = filled cs (set_present c.key.now (value_of c) ts)

-- how many tags are added, and how many are taken away
abbrev pub added : List Change → List Tag → ℕ
added cs ts = count_by (λ c. is_some (value_of c) && not (is_some (look_up c.key.now ts))) cs

abbrev pub gone : List Change → List Tag → ℕ
gone cs ts = count_by (λ c. not (is_some (value_of c)) && is_some (look_up c.key.now ts)) cs

-- ------------------------------------------------------------------ a record's tags

abbrev pub name_key : Bytes
name_key = text "pggname"

abbrev pub subgraph_key : Bytes
subgraph_key = text "subgraph"

abbrev pub translation_key : Bytes
translation_key = text "translation"

-- a change without where its bytes stand
abbrev pub pair_of : Change → Bytes × Option Bytes
pair_of c = (c.key.now, value_of c)

abbrev pub three_pairs : (n s t : Option Bytes) → List (Bytes × Option Bytes)
three_pairs n s t = (name_key, n) ∷ (subgraph_key, s) ∷ (translation_key, t) ∷ []

-- one after the other
abbrev pub three_changed : (n s t : Option Bytes) → List Tag → List Tag
three_changed n s t ts = set_or_remove translation_key t (set_or_remove subgraph_key s (set_or_remove name_key n ts))
