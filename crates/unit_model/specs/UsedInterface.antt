-- Inputs that are fed, and outputs that are read.
use Rattle.std.specs.Prelude.{ℕ, ◌==◌, Bool, false, not, ◌&&◌, if◌then◌else◌, List, filter, is_none, is_some, Option, None, Some}
use Rattle.std.specs.List.{fold, list_all, list_any, range_with_len, slice_index_or}
use Rattle.limits.specs.declared.TheConstants.{LOCATIONS}
use Rattle.spirv_model.specs.declared.module.Inst.{Inst}
use Rattle.spirv_model.specs.declared.op.TheConstants as op
use Rattle.spirv_model.specs.declared.storage_class.TheConstants as storage_class
use Rattle.spirv_model.specs.declared.decoration.TheConstants.{LOCATION}
use Rattle.spirv_model.specs.Operands.{ids, word_at}
use Rattle.valid_model.specs.declared.meaning.Meaning.{Meaning}
use Rattle.valid_model.specs.declared.meaning.Meaning.TheVariants.{Variable}
use Rattle.valid_model.specs.Definitions.{inst_at}
use Rattle.valid_model.specs.Meanings.{meaning}
use Rattle.valid_model.specs.DecorationWords.{decoration_of}
use Rattle.valid_model.specs.EarlierFacts.{is_variable_of}
use Rattle.state_model.specs.declared.iface.Iface.{Iface}
use Rattle.unit_model.specs.ConstantScalars.{function_places}

-- something stands at the location
abbrev pub has_slot : Iface → Option ℕ → Bool
has_slot iface None = false
has_slot iface (Some location) = is_some (slice_index_or iface.slots location None)

-- ---- inputs

abbrev pub is_input : Meaning → Bool
is_input (Variable type class) = class == storage_class.INPUT
is_input meaning = false

-- the id is an input at a location at which the other stage has no output; a built-in has no location
abbrev pub is_unfed : Iface → List Inst → ℕ → Bool
is_unfed fed insts id =
    is_input (meaning insts id) && is_some (decoration_of insts id LOCATION) && not (has_slot fed (decoration_of insts id LOCATION))

-- the function names no input at a location without an output there
abbrev pub names_fed_inputs : Iface → List Inst → Bool
names_fed_inputs fed insts = list_all (λ place. list_all (λ id. not (is_unfed fed insts id)) (ids (inst_at insts place))) (function_places insts)

-- the locations without anything
abbrev pub unfed : Iface → List ℕ
unfed iface = filter (λ location. is_none (slice_index_or iface.slots location None)) (range_with_len 0 LOCATIONS)

-- ---- outputs

-- to which variable each pointer leads: it is a variable, or a chain from one
abbrev pub Roots : Type 0
Roots = ℕ → Option ℕ

abbrev pub with_root : ℕ → Option ℕ → Roots → Roots
with_root id root roots = λ other. if other == id then root else roots other

abbrev pub roots_after : Roots → Inst → Roots
roots_after roots inst =
    if inst.op == op.VARIABLE then with_root (word_at 1 inst) (Some (word_at 1 inst)) roots
    else if inst.op == op.ACCESS_CHAIN then with_root (word_at 1 inst) (roots (word_at 2 inst)) roots
    else roots

unfoldable pub roots_of : List Inst → Roots
roots_of insts = fold roots_after (λ _. None) insts

abbrev pub is_root : ℕ → Option ℕ → Bool
is_root variable None = false
is_root variable (Some own) = own == variable

-- the function loads from the variable
abbrev pub is_loaded : List Inst → ℕ → Bool
is_loaded insts variable = list_any
    (λ place. ((inst_at insts place).op == op.LOAD) && is_root variable (roots_of insts (word_at 2 (inst_at insts place))))
    (function_places insts)

-- an output at a location at which the next stage has no input, and which the function doesn't load from
abbrev pub is_unread_output : Iface → List Inst → Inst → Bool
is_unread_output read insts inst =
    is_variable_of storage_class.OUTPUT inst && is_some (decoration_of insts (word_at 1 inst) LOCATION)
    && not (has_slot read (decoration_of insts (word_at 1 inst) LOCATION)) && not (is_loaded insts (word_at 1 inst))

abbrev pub keeps_read_outputs : Iface → List Inst → Bool
keeps_read_outputs read insts = list_all (λ inst. not (is_unread_output read insts inst)) insts
