-- A draw with modules that fit is a draw with the own modules: it is lawful where theirs is, and gives the same image.
use Rattle.std.proofs.Common.{◌≡◌, ℕ, ◌==◌, ◌&&◌, ◌||◌, Bool, true, false, not, List, [], ◌∷◌, Option, None, Some, refl, cond}
use Rattle.std.specs.Prelude.{◌↔◌, IfSome, IsNone, IsTrue}
use Rattle.std.specs.List.{list_all, find}
use Rattle.std.specs.Option.{option_map}
use Rattle.basics.proofs.Bools.{first_of_both, second_of_both}
use Rattle.spirv_model.specs.declared.module.Inst.{Inst}
use Rattle.spirv_model.specs.declared.module.Words.{Words}
use Rattle.spirv_model.specs.declared.op.TheConstants as op
use Rattle.spirv_model.specs.declared.decoration.TheConstants.{SPEC_ID}
use Rattle.spirv_model.specs.declared.execution_model.TheConstants.{VERTEX, FRAGMENT}
use Rattle.spirv_model.specs.Operands.{word_at, class_of}
use Rattle.valid_model.specs.DecorationWords.{decorates, decoration_of, is_listed}
use Rattle.valid_model.specs.ModuleFacts.{model_of}
use Rattle.state_model.specs.declared.buffers.Buffers.{Buffers}
use Rattle.state_model.specs.declared.parts.State.{State}
use Rattle.check_model.proofs.EntryModels.{vertex_model, fragment_model}
use Rattle.draw_model.specs.declared.command.Dynamic.{Dynamic}
use Rattle.draw_model.specs.declared.command.DrawCall.{DrawCall}
use Rattle.draw_model.specs.declared.framebuffer.Targets.{Targets}
use Rattle.draw_model.specs.LawfulDraw.{HasModel, DeclaresAmong, LawfulDraw}
use Rattle.draw_model.specs.WholeDraw.{image}
use Rattle.draw_model.proofs.AgreeingDraws.{image_agrees}
use Rattle.unit_model.specs.ConstantScalars.{is_spec_class, is_specialization, is_specialized}
use Rattle.unit_model.specs.Fits.{FitsFragments, FitsModules, insts_of}

-- ---- a module without specialization constants declares no number of one

-- a decoration that is no number of a specialization constant decorates no id by one
by_parts : (spec decorate listed is_id is_setting : Bool) → not (spec || (decorate && is_setting)) ≡ true → (decorate && listed) && is_id && is_setting ≡ false
by_parts spec false listed is_id is_setting h = refl
by_parts spec true false is_id is_setting h = refl
by_parts spec true true false is_setting h = refl
by_parts spec true true true false h = refl
by_parts true true true true true h = cc
by_parts false true true true true h = cc

sets_none : (inst : Inst) (id : ℕ) → not (is_specialization inst) ≡ true → decorates id SPEC_ID inst ≡ false
sets_none inst id h =
    by_parts (is_spec_class (class_of inst.op)) (inst.op == op.DECORATE) (is_listed (word_at 1 inst) _) (word_at 0 inst == id) (word_at 1 inst == SPEC_ID) h

none_found : (insts : List Inst) (id : ℕ) → is_specialized insts ≡ true → find (decorates id SPEC_ID) insts ≡ None
none_found [] id h = refl
none_found (inst ∷ insts) id h = by_test (decorates id SPEC_ID inst)
    (sets_none inst id (first_of_both (not (is_specialization inst)) (list_all (λ inst. not (is_specialization inst)) insts) h))
    (none_found insts id (second_of_both (not (is_specialization inst)) (list_all (λ inst. not (is_specialization inst)) insts) h))
  where
    by_test : (b : Bool) → b ≡ false → find (decorates id SPEC_ID) insts ≡ None → cond b (Some inst) (find (decorates id SPEC_ID) insts) ≡ None
    by_test true is more = cc
    by_test false is more = more

no_some : (o : Option Inst) (word : ℕ) → o ≡ None → option_map (word_at 2) o ≡ Some word → ⊥
no_some o word none some = cc

pub declares_none : (insts : List Inst) → is_specialized insts ≡ true → DeclaresAmong [] insts
unfolding decoration_of
declares_none insts h = λ id word declared. absurd (no_some (find (decorates id SPEC_ID) insts) word (none_found insts id h) declared)

fragments_declare_none : (own_vs : Words) (own_fs fs : Option Words) → FitsFragments own_vs own_fs fs → IfSome (insts_of fs) (DeclaresAmong [])
fragments_declare_none own_vs None None h = tt
fragments_declare_none own_vs None (Some fs) h = absurd h
fragments_declare_none own_vs (Some own) None h = absurd h
fragments_declare_none own_vs (Some own) (Some fs) h = declares_none fs.insts h.reduced.folded.specialized

-- ---- the image

pub fitting_image : (state : State) (own_vs : Words) (own_fs : Option Words) (vs : Words) (fs : Option Words) → FitsModules state own_vs own_fs vs fs
    → (dynamic : Dynamic) (call : DrawCall) (buffers : Buffers) (targets : Targets)
    → image vs.insts (insts_of fs) state dynamic call buffers targets ≡ image own_vs.insts (insts_of own_fs) state dynamic call buffers targets
fitting_image state own_vs own_fs vs fs h dynamic call buffers targets =
    image_agrees own_vs.insts (insts_of own_fs) vs.insts (insts_of fs) state dynamic call buffers targets h.agree
    (declares_none vs.insts h.vertex.reduced.folded.specialized) (fragments_declare_none own_vs own_fs fs h.fragment)

-- ---- lawful draws

has_model : (insts : List Inst) (model : ℕ) → model_of insts ≡ Some model → HasModel model insts
unfolding model_of
has_model insts model h = h

fragments_have_model : (own_vs : Words) (own_fs fs : Option Words) → FitsFragments own_vs own_fs fs → IfSome (insts_of fs) (HasModel FRAGMENT)
fragments_have_model own_vs None None h = tt
fragments_have_model own_vs None (Some fs) h = absurd h
fragments_have_model own_vs (Some own) None h = absurd h
fragments_have_model own_vs (Some own) (Some fs) h = has_model fs.insts FRAGMENT (fragment_model fs h.valid h.stage)

same_presence : (P : Type 0) (own_vs : Words) (own_fs fs : Option Words) → FitsFragments own_vs own_fs fs → P ↔ IsNone (insts_of own_fs) → P ↔ IsNone (insts_of fs)
same_presence P own_vs None None h iff = iff
same_presence P own_vs None (Some fs) h iff = absurd h
same_presence P own_vs (Some own) None h iff = absurd h
same_presence P own_vs (Some own) (Some fs) h iff = iff

pub fitting_draw : (state : State) (own_vs : Words) (own_fs : Option Words) (vs : Words) (fs : Option Words) → FitsModules state own_vs own_fs vs fs
    → (dynamic : Dynamic) (call : DrawCall) (buffers : Buffers) (targets : Targets)
    → LawfulDraw own_vs.insts (insts_of own_fs) state dynamic call buffers targets → LawfulDraw vs.insts (insts_of fs) state dynamic call buffers targets
fitting_draw state own_vs own_fs vs fs h dynamic call buffers targets draw = record {
  lawful = draw.lawful;
  vertex_model = has_model vs.insts VERTEX (vertex_model vs.insts h.vertex.stage);
  fragment_model = fragments_have_model own_vs own_fs fs h.fragment;
  fragment_there = same_presence (IsTrue state.prerast.discard) own_vs own_fs fs h.fragment draw.fragment_there;
  numbers = draw.numbers;
  counts = draw.counts;
  buffer_words = draw.buffer_words;
  target_words = draw.target_words;
}
