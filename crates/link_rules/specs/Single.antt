-- One library of each subset: as libraries, and the state that they make.
use Rattle.std.specs.Prelude.{[], ◌∷◌, map}
use Rattle.std.specs.Option.{option_map, option_to_list}
use Rattle.state_model.specs.declared.parts.State.{State}
use Rattle.state_model.specs.Link.{Libraries, PrerastLibrary, FragmentLibrary}
use Rattle.prerast_lib.specs.declared.PrerastLib.{PrerastLib}
use Rattle.fragment_lib.specs.declared.FragmentLib.{FragmentLib}
use Rattle.link_rules.specs.declared.contents.SingleLibs.{SingleLibs}

abbrev pub prerast_library : PrerastLib → PrerastLibrary
prerast_library p = record { part = p.part; inputs = p.inputs; outputs = p.outputs }

abbrev pub fragment_library : FragmentLib → FragmentLibrary
fragment_library f = record { part = f.part; inputs = f.inputs; outputs = f.outputs }

abbrev pub libraries_of_single : SingleLibs → Libraries
libraries_of_single libs = record {
  vertex = libs.vertex.part ∷ [];
  prerast = prerast_library libs.prerast ∷ [];
  fragment = map fragment_library (option_to_list libs.fragment);
  output = map (λ o. o.part) (option_to_list libs.output);
}

abbrev pub state_of_single : SingleLibs → State
state_of_single libs = record {
  vertex = libs.vertex.part;
  prerast = libs.prerast.part;
  fragment = option_map (λ f. f.part) libs.fragment;
  output = option_map (λ o. o.part) libs.output;
}
