-- The libraries of pipes, by the modules and the libraries of a trace alone.
use Rattle.std.proofs.Common.{◌≡◌, ℕ, zero, suc, ◌+◌, ◌<◌, List, [], ◌∷◌, ◌++◌, take, refl, ap, sym, ◌∙◌, subst, append-nil, length, Option, None, Some}
use Rattle.std.proofs.Math.Path.{fun_ext}
use Rattle.std.proofs.lemmas.List.{take_more}
use Rattle.std.proofs.lemmas.List.Elements.{All-nil, All-cons, All-head, All-tail, All-append, filter_map-append}
use Rattle.std.specs.List.{All, filter_map, cons_option}
use Rattle.std.specs.Option.{option_map_or}
use Rattle.std.specs.Prelude.{slice_get, slice_index, slice_index_or}
use Rattle.spirv_model.specs.declared.module.Words.{Words}
use Rattle.state_model.specs.Lawful.{IsVertexPart, IsPrerastPart, IsFragmentPart, IsOutputPart}
use Rattle.state_model.specs.Link.{Libraries, PrerastLibrary, FragmentLibrary}
use Rattle.check_model.specs.Interfaces.{inputs_of, outputs_of}
use Rattle.trace_model.specs.declared.whole.Library.{Library}
use Rattle.trace_model.specs.declared.whole.Library.TheVariants as library
use Rattle.trace_model.specs.declared.whole.Trace.{Trace}
use Rattle.trace_model.specs.LawfulPlay.{IsLibrary}
use Rattle.trace_model.specs.Pipes.{vertex_in, output_in, prerast_in, fragment_in, libraries_by_subset, pipe_libraries}
use Rattle.link_rules.specs.Parts.{HoldsLawfulParts}
use Rattle.gpl_play.specs.Links.{with_modules, libraries_given, with_library, libraries_at, HasObjects}

-- ---- the modules of a trace are all that counts

prerast_same : (trace : Trace) (modules : List Words) → trace.modules ≡ modules → (given : Library) → prerast_in trace given ≡ prerast_in (with_modules modules) given
prerast_same trace modules h (library.Prerast part) =
    ap (λ (ms : List Words). let insts = option_map_or (λ (m : Words). m.insts) (slice_get ms part.«module») [] in
    let made : Option PrerastLibrary = Some (record { part = part; inputs = inputs_of insts; outputs = outputs_of insts }) in made) h
prerast_same trace modules h (library.Vertex part) = refl
prerast_same trace modules h (library.Fragment part) = refl
prerast_same trace modules h (library.Output part) = refl

fragment_same : (trace : Trace) (modules : List Words) → trace.modules ≡ modules → (given : Library) → fragment_in trace given ≡ fragment_in (with_modules modules) given
fragment_same trace modules h (library.Fragment part) =
    ap (λ (ms : List Words). let insts = option_map_or (λ (m : Words). m.insts) (slice_get ms part.«module») [] in
    let made : Option FragmentLibrary = Some (record { part = part; inputs = inputs_of insts; outputs = outputs_of insts }) in made) h
fragment_same trace modules h (library.Vertex part) = refl
fragment_same trace modules h (library.Prerast part) = refl
fragment_same trace modules h (library.Output part) = refl

abbrev with_shaders : List Library → (Library → Option PrerastLibrary) → (Library → Option FragmentLibrary) → Libraries
with_shaders given prerast fragment = record {
  vertex = filter_map vertex_in given;
  prerast = filter_map prerast given;
  fragment = filter_map fragment given;
  output = filter_map output_in given;
}

same_libraries : (trace : Trace) (modules : List Words) (given : List Library) → trace.modules ≡ modules → libraries_by_subset trace given ≡ libraries_given modules given
same_libraries trace modules given h =
    ap (λ (f : Library → Option PrerastLibrary). with_shaders given f (fragment_in trace)) (fun_ext (prerast_same trace modules h))
    ∙ ap (λ (f : Library → Option FragmentLibrary). with_shaders given (prerast_in (with_modules modules)) f) (fun_ext (fragment_same trace modules h))

-- ---- one library more

one_library_more : (modules : List Words) (given : List Library) (more : Library) → libraries_given modules (given ++ more ∷ []) ≡ with_library modules (libraries_given modules given) more
one_library_more modules given more =
    rw (
      filter_map-append vertex_in given (more ∷ []),
      filter_map-append (prerast_in (with_modules modules)) given (more ∷ []),
      filter_map-append (fragment_in (with_modules modules)) given (more ∷ []),
      filter_map-append output_in given (more ∷ []),
    ) refl

-- ---- lists

pub middle : {A : Type 0} (P : A → Type 0) (front : List A) (x : A) (rest : List A) → All P (front ++ x ∷ rest) → P x
middle P [] x rest h = All-head P x rest h
middle P (y ∷ front) x rest h = middle P front x rest (All-tail P y (front ++ x ∷ rest) h)

-- ---- lawful parts

pub has_get : {A : Type 0} (P : A → Type 0) (xs : List A) (i : ℕ) (x : A) → All P xs → slice_get xs i ≡ Some x → P x
has_get P [] i x h e = cc
has_get P (y ∷ xs) zero x h e = let same : y ≡ x = cc e in subst P same (All-head P y xs h)
has_get P (y ∷ xs) (suc i) x h e = has_get P xs i x (All-tail P y xs h) e

one_lawful : (modules : List Words) (library : Library) → IsLibrary modules library → HoldsLawfulParts (libraries_given modules (library ∷ []))
one_lawful modules (library.Vertex part) is = record {
  vertex = All-cons IsVertexPart part [] is (All-nil IsVertexPart);
  prerast = All-nil (λ (p : PrerastLibrary). IsPrerastPart p.part);
  fragment = All-nil (λ (f : FragmentLibrary). IsFragmentPart f.part);
  output = All-nil IsOutputPart;
}
one_lawful modules (library.Prerast part) is = record {
  vertex = All-nil IsVertexPart;
  prerast = All-cons (λ (p : PrerastLibrary). IsPrerastPart p.part) _ [] is.0 (All-nil (λ (p : PrerastLibrary). IsPrerastPart p.part));
  fragment = All-nil (λ (f : FragmentLibrary). IsFragmentPart f.part);
  output = All-nil IsOutputPart;
}
one_lawful modules (library.Fragment part) is = record {
  vertex = All-nil IsVertexPart;
  prerast = All-nil (λ (p : PrerastLibrary). IsPrerastPart p.part);
  fragment = All-cons (λ (f : FragmentLibrary). IsFragmentPart f.part) _ [] is.0 (All-nil (λ (f : FragmentLibrary). IsFragmentPart f.part));
  output = All-nil IsOutputPart;
}
one_lawful modules (library.Output part) is = record {
  vertex = All-nil IsVertexPart;
  prerast = All-nil (λ (p : PrerastLibrary). IsPrerastPart p.part);
  fragment = All-nil (λ (f : FragmentLibrary). IsFragmentPart f.part);
  output = All-cons IsOutputPart part [] is (All-nil IsOutputPart);
}

pub lawful_more : (modules : List Words) (libs : Libraries) (library : Library) → IsLibrary modules library → HoldsLawfulParts libs → HoldsLawfulParts (with_library modules libs library)
lawful_more modules libs library is h =
    let one = one_lawful modules library is in
    let more = libraries_given modules (library ∷ []) in
    record {
      vertex = All-append IsVertexPart libs.vertex more.vertex h.vertex one.vertex;
      prerast = All-append (λ (p : PrerastLibrary). IsPrerastPart p.part) libs.prerast more.prerast h.prerast one.prerast;
      fragment = All-append (λ (f : FragmentLibrary). IsFragmentPart f.part) libs.fragment more.fragment h.fragment one.fragment;
      output = All-append IsOutputPart libs.output more.output h.output one.output;
    }

-- ---- the libraries of a pipe, one after the other

chosen_more : (libs : List Library) (pipe : List ℕ) (i : ℕ) → i < length pipe
    → filter_map (slice_get libs) (take (i + 1) pipe) ≡ filter_map (slice_get libs) (take i pipe) ++ cons_option (slice_get libs (slice_index pipe i)) []
chosen_more libs pipe i within =
    ap (filter_map (slice_get libs)) (take_more pipe i 0 within) ∙ filter_map-append (slice_get libs) (take i pipe) (slice_index pipe i ∷ [])

-- where there is a library with the number
pub given_more : (modules : List Words) (libs : List Library) (pipe : List ℕ) (i : ℕ) (made : Libraries) (library : Library) → i < length pipe → slice_get libs (slice_index pipe i) ≡ Some library
    → made ≡ libraries_given modules (filter_map (slice_get libs) (take i pipe))
    → with_library modules made library ≡ libraries_given modules (filter_map (slice_get libs) (take (i + 1) pipe))
given_more modules libs pipe i made library within there is =
    ap (λ (m : Libraries). with_library modules m library) is
    ∙ sym (one_library_more modules (filter_map (slice_get libs) (take i pipe)) library)
    ∙ ap (λ (o : Option Library). libraries_given modules (filter_map (slice_get libs) (take i pipe) ++ cons_option o [])) (sym there)
    ∙ ap (libraries_given modules) (sym (chosen_more libs pipe i within))

-- where there is none
pub given_same : (modules : List Words) (libs : List Library) (pipe : List ℕ) (i : ℕ) (made : Libraries) → i < length pipe → slice_get libs (slice_index pipe i) ≡ None
    → made ≡ libraries_given modules (filter_map (slice_get libs) (take i pipe)) → made ≡ libraries_given modules (filter_map (slice_get libs) (take (i + 1) pipe))
given_same modules libs pipe i made within none is =
    is
    ∙ ap (libraries_given modules) (sym (append-nil (filter_map (slice_get libs) (take i pipe))))
    ∙ ap (λ (o : Option Library). libraries_given modules (filter_map (slice_get libs) (take i pipe) ++ cons_option o [])) (sym none)
    ∙ ap (libraries_given modules) (sym (chosen_more libs pipe i within))

-- ---- a pipe, by its number

pub libraries_are : (trace : Trace) (modules : List Words) (libs : List Library) (pipes : List (List ℕ)) → HasObjects trace modules libs pipes
    → (pipe : ℕ) → pipe_libraries trace pipe ≡ libraries_at modules libs pipes pipe
unfolding pipe_libraries
libraries_are trace modules libs pipes h pipe =
    same_libraries trace modules (filter_map (slice_get trace.libs) (slice_index_or trace.pipes pipe [])) h.modules_are
    ∙ ap (λ (ls : List Library). libraries_given modules (filter_map (slice_get ls) (slice_index_or trace.pipes pipe []))) h.libs_are
    ∙ ap (λ (ps : List (List ℕ)). libraries_given modules (filter_map (slice_get libs) (slice_index_or ps pipe []))) h.pipes_are
