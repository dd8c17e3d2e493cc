-- Lines of words, and the words of the state text.
use Rattle.std.specs.Prelude.{ℕ, Bool, true, false, List, [], ◌∷◌, ◌++◌, map, flat_map, Option, Some, None, codes, decimal}
use Rattle.std.specs.List.{range_with_len}
use Rattle.tss_base.specs.declared.range.Range.{Range}
use Rattle.tss_base.specs.declared.operand.Operand.{Operand}
use Rattle.tss_base.specs.declared.operand.Mode.{Mode}
use Rattle.tss_base.specs.declared.operand.Mode.TheVariants.{Input, Output, Inout}
use Rattle.tss_base.specs.declared.marks.Stage.{Stage}
use Rattle.tss_base.specs.declared.marks.Stage.TheVariants as stage
use Rattle.tss_base.specs.declared.marks.LinkState.{LinkState}
use Rattle.tss_base.specs.declared.marks.LinkState.TheVariants as link
use Rattle.tss_base.specs.declared.marks.Farewell.{Farewell}
use Rattle.tss_base.specs.declared.marks.Farewell.TheVariants as farewell
use Rattle.tss_base.specs.declared.marks.How.{How}
use Rattle.tss_base.specs.declared.marks.How.TheVariants.{Beside, Over}
use Rattle.tss_base.specs.declared.marks.Follow.{Follow}
use Rattle.tss_model.specs.Registers.{Registers, register_at}
use Rattle.tss_protocol.specs.Mail.{StorageName, Home, Buffer, Source}
use Rattle.tss_protocol.specs.Text.{name_text}
use Rattle.tss_text.specs.Digits.{hex_word}

-- ---- lines

-- words, each after a space
abbrev pub spaced : List (List ℕ) → List ℕ
spaced words = flat_map (λ w. codes " " ++ w) words

-- a line: its first word, the others, each after a space, and its end
abbrev pub line : List ℕ → List (List ℕ) → List ℕ
line first others = first ++ (spaced others ++ codes "\n")

-- ---- words

-- what stands for none
abbrev pub dash : List ℕ
dash = codes "-"

-- the word of what is there, or what stands for none
abbrev pub optional : {X : Type 0} → (X → List ℕ) → Option X → List ℕ
optional word None = dash
optional word (Some x) = word x

-- the words of an object: its base and its length
abbrev pub object_words : Range → List (List ℕ)
object_words r = hex_word r.base ∷ decimal r.len ∷ []

-- how a task uses an object
abbrev pub mode_word : Mode → List ℕ
mode_word Input = codes "input"
mode_word Output = codes "output"
mode_word Inout = codes "inout"

-- the words of an object and a mode
abbrev pub operand_words : Operand → List (List ℕ)
operand_words o = object_words o.object ++ mode_word o.mode ∷ []

-- where a value lies
abbrev pub storage_word : StorageName → List ℕ
storage_word Home = codes "home"
storage_word (Buffer n) = name_text n

-- how far a task is
abbrev pub stage_word : Stage → List ℕ
stage_word stage.Waiting = codes "waiting"
stage_word stage.Queued = codes "queued"
stage_word stage.Running = codes "running"
stage_word stage.Finished = codes "finished"

-- the words of what an operand was told: a version, and the storage of its value
abbrev pub source_words : Option Source → List (List ℕ)
source_words s = optional (λ x. name_text x.version) s ∷ optional (λ x. storage_word x.storage) s ∷ []

-- the next operand while a link is held, or that the link has passed
abbrev pub link_word : LinkState → List ℕ
link_word link.Nothing = dash
link_word (link.Held next) = name_text next
link_word link.Passed = codes "passed"

-- how far a farewell is
abbrev pub farewell_word : Farewell → List ℕ
farewell_word farewell.Nothing = dash
farewell_word farewell.Promised = codes "promised"
farewell_word farewell.Left = codes "left"

-- how a version follows another
abbrev pub how_word : How → List ℕ
how_word Beside = codes "beside"
how_word Over = codes "over"

-- the words of a link between versions: the other version, how the later follows the earlier, and the final number of
-- the earlier one's uses
abbrev pub follow_words : Option Follow → List (List ℕ)
follow_words f =
    optional (λ x. name_text x.version) f ∷ optional (λ x. how_word x.how) f ∷ optional (λ x. decimal x.last) f ∷ []

-- whether a version is produced
abbrev pub produced_word : Bool → List ℕ
produced_word true = codes "produced"
produced_word false = codes "open"

-- whether an entry's object is about to leave the tables
abbrev pub retiring_word : Bool → List ℕ
retiring_word true = codes "retiring"
retiring_word false = codes "live"

-- whether main has ended
abbrev pub ended_word : Bool → List ℕ
ended_word true = codes "ended"
ended_word false = codes "runs"

-- the registers from x1 to x31
abbrev pub register_words : Registers → List (List ℕ)
register_words r = map (λ n. hex_word (register_at r n)) (range_with_len 1 31)
