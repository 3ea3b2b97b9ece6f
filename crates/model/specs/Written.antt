-- What the writers give, from their arguments alone: the number of a refusal, or the bytes that go to the front of an output.
use Rattle.std.specs.Prelude.{Bool, true, cond, ◌&&◌, ℕ, length, leb, Option, Some, None, Ok, Err}
use Rattle.model.specs.declared.fault.Fault.TheVariants.{OutputShort, LongDesc}
use Rattle.model.specs.declared.holdings.TagSizes.{TagSizes}
use Rattle.model.specs.Bytes.{Bytes, put}
use Rattle.model.specs.Record.{GraphName}
use Rattle.model.specs.Questions.{asked, asked_both, mapped}
use Rattle.model.specs.Opening.{Given}
use Rattle.model.specs.Message.{error_message}
use Rattle.model.specs.Writing.{to_gfa_header_lines, to_gaf_header_lines, relations_tag}
use Rattle.model.specs.Describe.{describe_relationship}

-- 17 where the text is longer than the output
abbrev pub within : ℕ → Given Bytes → Given Bytes
within room (Err n) = Err n
within room (Ok t) = cond (leb (length t) room) (Ok t) (Err OutputShort)

unfoldable pub gfa_written : Bytes → ℕ → Given Bytes
gfa_written b room = within room (asked b to_gfa_header_lines)

unfoldable pub gaf_written : Bytes → ℕ → Given Bytes
gaf_written b room = within room (asked b to_gaf_header_lines)

unfoldable pub message_written : ℕ → ℕ → Bytes → ℕ → Given Bytes
message_written number line part room = within room (Ok (error_message number line part))

-- 18 where either desc is over 4,096 bytes
abbrev pub with_descs : Bytes → Bytes → Given Bytes → Given Bytes
with_descs self_desc other_desc (Err n) = Err n
with_descs self_desc other_desc (Ok t) = cond (leb (length self_desc) 4096 && leb (length other_desc) 4096) (Ok t) (Err LongDesc)

unfoldable pub relationship_written : Bytes → Bytes → Bytes → Bytes → ℕ → Given Bytes
relationship_written b c self_desc other_desc room =
    within room (with_descs self_desc other_desc (asked_both b c λ g h. describe_relationship g h self_desc other_desc))

-- how long the text is, and what the output then holds
abbrev pub size_written : Given Bytes → Given ℕ
size_written (Err n) = Err n
size_written (Ok t) = Ok (length t)

abbrev pub output_with : Given Bytes → Bytes → Bytes
output_with (Err n) out = out
output_with (Ok t) out = put out 0 t

-- ------------------------------------------------------------------ tags

pub record Tags : Type 0 where
  pub name : Option Bytes
  pub subgraph : Option Bytes
  pub translation : Option Bytes

abbrev pub tags_of : GraphName → Tags
tags_of g = record { name = g.name; subgraph = relations_tag g.subgraph; translation = relations_tag g.translation }

-- an absent value fits every output
abbrev pub fits : Option Bytes → ℕ → Bool
fits None room = true
fits (Some t) room = leb (length t) room

-- each value with an output of its own; none is written unless all fit
abbrev pub all_within : ℕ → ℕ → ℕ → Given Tags → Given Tags
all_within n s t (Err k) = Err k
all_within n s t (Ok v) = cond (fits v.name n && (fits v.subgraph s && fits v.translation t)) (Ok v) (Err OutputShort)

unfoldable pub tags_written : Bytes → ℕ → ℕ → ℕ → Given Tags
tags_written b n s t = all_within n s t (asked b tags_of)

-- how long each value is, and what its output then holds
abbrev pub tag_sizes : Given Tags → Given TagSizes
tag_sizes (Err n) = Err n
tag_sizes (Ok v) = Ok (record { name = mapped length v.name; subgraph = mapped length v.subgraph; translation = mapped length v.translation })

abbrev pub put_value : Option Bytes → Bytes → Bytes
put_value None out = out
put_value (Some t) out = put out 0 t

abbrev pub output_with_tag : (Tags → Option Bytes) → Given Tags → Bytes → Bytes
output_with_tag value (Err n) out = out
output_with_tag value (Ok v) out = put_value (value v) out
