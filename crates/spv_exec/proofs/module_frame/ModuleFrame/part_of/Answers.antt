use Rattle.std.proofs.Common.{ℕ, ap, ◌∙◌, sym, subst, List, Option}
use Rattle.stage_model.specs.Program.{layouts_of, program_of}
use Rattle.spv_exec.specs.declared.module_frame.Part.{Part}
use Rattle.valid_model.specs.declared.meaning.Meaning.TheVariants.{Shape as OfShape}
use Rattle.spv_exec.specs.ModuleFrames.{AnswersPart}
use Rattle.spv_exec.proofs.PartAnswers.{elements_few, truths_told, words_told, elements_told, members_told, nothing_told}
use Rattle.spv_exec.proofs.module_frame.ModuleFrame.part_of.Goals as goal

pub element-requires : goal.element-requires
element-requires c = elements_few c.args.self.now c.requires.valid c.args.ty c.in-Array.elem c.in-Array.len (c.requires.shaped ∙ ap OfShape c.in-Array.is)

pub returns-in-BoolVector : goal.returns-in-BoolVector
returns-in-BoolVector c layout known =
    subst (λ (r : Option Part). AnswersPart (program_of c.args.self.now.insts) layout c.args.index r) (sym c.component.ensures)
    (truths_told c.args.self.now c.requires.valid c.args.ty c.args.index c.in-BoolVector.comps c.args.shape.now c.requires.shaped c.in-BoolVector.is layout known)

pub returns-in-IntVector : goal.returns-in-IntVector
returns-in-IntVector c layout known =
    subst (λ (r : Option Part). AnswersPart (program_of c.args.self.now.insts) layout c.args.index r) (sym c.component-in-IntVector.ensures)
    (words_told c.args.self.now c.requires.valid c.args.ty c.args.index c.in-IntVector.comps c.in-IntVector.signed c.args.shape.now c.requires.shaped c.in-IntVector.is layout known)

pub returns-in-Array : goal.returns-in-Array
returns-in-Array c = elements_told c.args.self.now c.requires.valid c.args.ty c.args.index c.in-Array.elem c.in-Array.len c.args.shape.now c.element.result c.requires.shaped c.in-Array.is c.element.ensures

pub returns-in-Struct : goal.returns-in-Struct
returns-in-Struct c =
    members_told c.args.self.now c.requires.valid c.args.ty c.args.index c.in-Struct.members c.args.shape.now c.member.result c.requires.shaped c.in-Struct.is
    (λ layouts known. c.member.ensures layouts (ap (λ (l : List ℕ). layouts_of (program_of c.args.self.now.insts).layout l) c.as_slice.ensures ∙ known))

pub returns-in-Void : goal.returns-in-Void
returns-in-Void c = nothing_told c.args.self.now c.requires.valid c.args.ty c.args.index c.args.shape.now c.requires.shaped c.in-Void.is

pub returns-in-Void-2 : goal.returns-in-Void-2
returns-in-Void-2 c = nothing_told c.args.self.now c.requires.valid c.args.ty c.args.index c.args.shape.now c.requires.shaped c.in-Void.is

pub returns-in-Void-3 : goal.returns-in-Void-3
returns-in-Void-3 c = nothing_told c.args.self.now c.requires.valid c.args.ty c.args.index c.args.shape.now c.requires.shaped c.in-Void.is

pub returns-in-Void-4 : goal.returns-in-Void-4
returns-in-Void-4 c = nothing_told c.args.self.now c.requires.valid c.args.ty c.args.index c.args.shape.now c.requires.shaped c.in-Void.is

pub returns-in-Void-5 : goal.returns-in-Void-5
returns-in-Void-5 c = nothing_told c.args.self.now c.requires.valid c.args.ty c.args.index c.args.shape.now c.requires.shaped c.in-Void.is
