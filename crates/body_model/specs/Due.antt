-- Which block is due at a place, and why it isn't there.
use Rattle.std.specs.Prelude.{◌≡◌, ℕ, Bool, true, false, ◌&&◌, ◌||◌, ◌==◌, if◌then◌else◌, List, [], ◌∷◌, take, drop, slice_index, Option, None, Some}
use Rattle.spirv_model.specs.declared.module.Inst.{Inst}
use Rattle.spirv_model.specs.declared.op.TheConstants.{LABEL, FUNCTION_END}
use Rattle.body_model.specs.declared.fault.TreeFault.{TreeFault}
use Rattle.body_model.specs.declared.fault.TreeFault.TheVariants.{BadBlock, BadMerge}
use Rattle.body_model.specs.Switches.{is_among}

-- some instruction is OpLabel of this label
abbrev pub has_label : List Inst → ℕ → Bool
has_label [] label = false
has_label (inst ∷ rest) label = ((inst.op == LABEL) && (slice_index inst.words 0 == label)) || has_label rest label

-- a label is one of those that are due; where none is given, any is
abbrev pub is_wanted : Option (List ℕ) → ℕ → Bool
is_wanted None label = true
is_wanted (Some labels) label = is_among label labels

-- OpFunctionEnd stands where a block is due
abbrev pub ends_early : Option (List ℕ) → ℕ → TreeFault
ends_early None place = BadBlock place
ends_early (Some labels) place = BadMerge place

-- why no such block stands at the front of these instructions, behind the ones before
abbrev pub misses_label : List Inst → Option (List ℕ) → List Inst → ℕ → Option TreeFault
misses_label before wanted [] place = Some (BadBlock place)
misses_label before wanted (inst ∷ rest) place =
    if inst.op == LABEL
    then (if has_label before (slice_index inst.words 0) then Some (BadBlock place)
    else if is_wanted wanted (slice_index inst.words 0) then None
    else Some (BadMerge place))
    else if inst.op == FUNCTION_END then Some (ends_early wanted place)
    else Some (BadBlock place)

-- why the block that is due at a place, with one of these labels, isn't there
unfoldable pub missing : List Inst → Option (List ℕ) → ℕ → Option TreeFault
missing insts wanted place = misses_label (take place insts) wanted (drop place insts) place

-- the block with this label, which no block before has, stands at the place; without a label, some block
abbrev pub only : Option ℕ → Option (List ℕ)
only None = None
only (Some label) = Some (label ∷ [])

abbrev pub IsDue : List Inst → Option ℕ → ℕ → Type 0
IsDue insts wanted place = missing insts (only wanted) place ≡ None
