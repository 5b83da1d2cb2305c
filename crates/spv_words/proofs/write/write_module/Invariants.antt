use Rattle.std.proofs.Common.{◌≡◌, ℕ, ◌<◌, take, get_or}
use Rattle.spirv_model.specs.declared.module.Inst.{Inst}
use Rattle.spirv_model.specs.Module.{module_words}
use Rattle.spv_words.proofs.write.write_module.Given as goal

-- the instructions so far are written, and their opcodes have 16 bits
abbrev pub invariant-loop-inst : goal.invariant-loop-inst
invariant-loop-inst l =
    record {
      written : l.words.items ≡ module_words (take l.inst-index l.insts) l.bound;
      narrow : (k : ℕ) (d : Inst) → k < l.inst-index → (get_or l.insts k d).op < 65536;
    }
