-- Lines of each form, at both ends of its ranges, and lines that have no form, by computing.
use Rattle.std.proofs.Common.{◌≡◌, ℕ, Bool, true, false, not, List, [], ◌∷◌, refl}
use Rattle.std.specs.Prelude.{codes, is_some, replicate, Option, None, Some}
use Rattle.std.specs.List.{list_all, list_any}
use Rattle.trace_model.specs.declared.whole.Version.{Version}
use Rattle.trace_model.specs.declared.whole.Version.TheVariants.{First, Second}
use Rattle.trace_model.specs.LibraryLines.{fragment_form, output_form, prerast_form, vertex_form}
use Rattle.trace_model.specs.LineForms.{line_of}
use Rattle.trace_model.specs.RecorderLines.{bind_form, draw_form, push_form, scissor_form, ubuf_form, vbuf_form}
use Rattle.trace_model.specs.SetupLines.{code_form, data_form, layout_form, pipe_form, target_form}
use Rattle.state_model.specs.declared.parts.Topology.TheVariants.{Triangles}
use Rattle.trace_model.specs.declared.whole.Step.TheVariants.{Push, Vbuf, Ubuf, Scissor, Bind, Draw}
use Rattle.trace_model.specs.Lines.{Line, data_line, layout_line, vertex_line, prerast_line, fragment_line, output_line, pipe_line, target_line, step_line}

-- each of these lines has a form of the version, and none of these has
abbrev have_forms : Version → List (List ℕ) → Bool
have_forms version lines = list_all (λ line. is_some (line_of version line)) lines

abbrev have_no_form : Version → List (List ℕ) → Bool
have_no_form version lines = not (list_any (λ line. is_some (line_of version line)) lines)

pub no_other-lines : have_no_form First (codes ""
    ∷ codes " "
    ∷ codes "gplt 1"
    ∷ codes "triangle"
    ∷ codes "Data"
    ∷ codes "dat"
    ∷ codes " data"
    ∷ codes "data\r"
    ∷ codes "-" ∷ []) ≡ true
unfolding line_of
no_other-lines = refl

pub data-lines : have_forms First (codes "data"
    ∷ codes "data ffffffff 0123abcd" ∷ []) ≡ true
unfolding line_of data_form
data-lines = refl

pub no_data-lines : have_no_form First (codes "data "
    ∷ codes "data  00000000"
    ∷ codes "data 0000000"
    ∷ codes "data 000000000"
    ∷ codes "data 0000000A"
    ∷ codes "data 0000000g"
    ∷ codes "data 00000000 "
    ∷ codes "data -"
    ∷ codes "data\t00000000" ∷ []) ≡ true
unfolding line_of data_form
no_data-lines = refl

pub code-lines : have_forms First (codes "code"
    ∷ codes "code 07230203" ∷ []) ≡ true
unfolding line_of code_form
code-lines = refl

pub no_code-lines : have_no_form First (codes "code "
    ∷ codes "code 7230203"
    ∷ codes "code 0x230203"
    ∷ codes "code -" ∷ []) ≡ true
unfolding line_of code_form
no_code-lines = refl

pub layout-lines : have_forms First (codes "layout 0 0 - - - -"
    ∷ codes "layout 1 32 255 0 - 255" ∷ []) ≡ true
unfolding line_of layout_form
layout-lines = refl

pub no_layout-lines : have_no_form First (codes "layout"
    ∷ codes "layout 2 0 - - - -"
    ∷ codes "layout - 0 - - - -"
    ∷ codes "layout 0 33 - - - -"
    ∷ codes "layout 0 00 - - - -"
    ∷ codes "layout 0 +1 - - - -"
    ∷ codes "layout 0 0 256 - - -"
    ∷ codes "layout 0 0 - - -"
    ∷ codes "layout 0 0 - - - - -"
    ∷ codes "layout 00 0 - - - -" ∷ []) ≡ true
unfolding line_of layout_form
no_layout-lines = refl

pub vertex-lines : have_forms First (codes "vertex 0 points - - - -"
    ∷ codes "vertex 1 triangles v:0 i:1024 - v:1024 0:0:u1:0 7:3:s4:1023"
    ∷ codes "vertex 0 points v:1 - - - 0:0:u1:0 0:0:u1:0 0:0:u1:0 0:0:u1:0 0:0:u1:0 0:0:u1:0 0:0:u1:0 0:0:u1:0" ∷ []) ≡ true
unfolding line_of vertex_form
vertex-lines = refl

pub no_vertex-lines : have_no_form First (codes "vertex 2 points - - - -"
    ∷ codes "vertex 1 lines - - - -"
    ∷ codes "vertex 1 points - - -"
    ∷ codes "vertex 1 points v:1025 - - -"
    ∷ codes "vertex 1 points w:1 - - -"
    ∷ codes "vertex 1 points v - - -"
    ∷ codes "vertex 1 points v: - - -"
    ∷ codes "vertex 1 points v:1:1 - - -"
    ∷ codes "vertex 1 points v:1 - - - 8:0:u1:0"
    ∷ codes "vertex 1 points v:1 - - - 0:4:u1:0"
    ∷ codes "vertex 1 points v:1 - - - 0:0:z:0"
    ∷ codes "vertex 1 points v:1 - - - 0:0:u5:0"
    ∷ codes "vertex 1 points v:1 - - - 0:0:u1:1024"
    ∷ codes "vertex 1 points v:1 - - - 0:0:u1"
    ∷ codes "vertex 1 points v:1 - - - -"
    ∷ codes "vertex 1 points v:1 - - - 0:0:u1:0 0:0:u1:0 0:0:u1:0 0:0:u1:0 0:0:u1:0 0:0:u1:0 0:0:u1:0 0:0:u1:0 0:0:u1:0" ∷ []) ≡ true
unfolding line_of vertex_form
no_vertex-lines = refl

pub prerast-lines : have_forms First (codes "prerast 0 0 0 0 0 0 cw"
    ∷ codes "prerast 1 99999999999999999999 0 15 1 3 ccw 4294967295=ffffffff 0=00000000 1=00000000 2=00000000" ∷ []) ≡ true
unfolding line_of prerast_form
prerast-lines = refl

pub no_prerast-lines : have_no_form First (codes "prerast 0 0 0 16 0 0 cw"
    ∷ codes "prerast 0 0 0 0 2 0 cw"
    ∷ codes "prerast 0 0 0 0 0 4 cw"
    ∷ codes "prerast 0 0 0 0 0 0 CW"
    ∷ codes "prerast 0 0 0 0 0 0"
    ∷ codes "prerast 0 - 0 0 0 0 cw"
    ∷ codes "prerast 0 00 0 0 0 0 cw"
    ∷ codes "prerast 0 0 0 0 0 0 cw 4294967296=00000000"
    ∷ codes "prerast 0 0 0 0 0 0 cw 0=0"
    ∷ codes "prerast 0 0 0 0 0 0 cw 0:00000000"
    ∷ codes "prerast 0 0 0 0 0 0 cw 0==00000000"
    ∷ codes "prerast 0 0 0 0 0 0 cw -"
    ∷ codes "prerast 0 0 0 0 0 0 cw 0=00000000 0=00000000 0=00000000 0=00000000 0=00000000" ∷ []) ≡ true
unfolding line_of prerast_form
no_prerast-lines = refl

pub fragment-lines : have_forms First (codes "fragment 0 0 0 0 - -"
    ∷ codes "fragment 1 0 99999999999999999999 15 7:1 4:15 0=00000000 0=00000000 0=00000000 0=00000000" ∷ []) ≡ true
unfolding line_of fragment_form
fragment-lines = refl

pub no_fragment-lines : have_no_form First (codes "fragment 0 0 0 0 8:0 -"
    ∷ codes "fragment 0 0 0 0 0:2 -"
    ∷ codes "fragment 0 0 0 0 0 -"
    ∷ codes "fragment 0 0 0 0 - 3:0"
    ∷ codes "fragment 0 0 0 0 - 1:2"
    ∷ codes "fragment 0 0 0 0 - 4:16"
    ∷ codes "fragment 0 0 0 0 - 0:0"
    ∷ codes "fragment 0 0 0 0 -"
    ∷ codes "fragment 0 0 0 16 - -"
    ∷ codes "fragment 0 0 - 0 - -"
    ∷ codes "fragment 0 0 0 0 - - 0=00000000 0=00000000 0=00000000 0=00000000 0=00000000" ∷ []) ≡ true
unfolding line_of fragment_form
no_fragment-lines = refl

pub output-lines : have_forms First (codes "output 0 0 1:0 - - - - -"
    ∷ codes "output 1 15 4:15 15 s4:15 u1:1 - s1:0" ∷ []) ≡ true
unfolding line_of output_form
output-lines = refl

pub no_output-lines : have_no_form First (codes "output 0 0 - - - - - -"
    ∷ codes "output 0 0 1:2 - - - - -"
    ∷ codes "output 0 16 1:1 - - - - -"
    ∷ codes "output 0 0 1:1 16 - - - -"
    ∷ codes "output 0 0 1:1 - u1:2 - - -"
    ∷ codes "output 0 0 1:1 - s4:16 - - -"
    ∷ codes "output 0 0 1:1 - z:1 - - -"
    ∷ codes "output 0 0 1:1 - u1 - - -"
    ∷ codes "output 0 0 1:1 - - - -"
    ∷ codes "output 0 0 1:1 - - - - - -"
    ∷ codes "output 0 0 1:1 - - - - - - - - -" ∷ []) ≡ true
unfolding line_of output_form
no_output-lines = refl

pub pipe-lines : have_forms First (codes "pipe 0"
    ∷ codes "pipe 0 1 2 3 4 5 6 99999999999999999999" ∷ []) ≡ true
unfolding line_of pipe_form
pipe-lines = refl

pub no_pipe-lines : have_no_form First (codes "pipe"
    ∷ codes "pipe "
    ∷ codes "pipe 00"
    ∷ codes "pipe -"
    ∷ codes "pipe 0 1 2 3 4 5 6 7 8"
    ∷ codes "pipe 0,1" ∷ []) ≡ true
unfolding line_of pipe_form
no_pipe-lines = refl

pub target-lines : have_forms First (codes "target 0 u1 1 1 1 1 00000000"
    ∷ codes "target 3 z 256 256 4 4 ffffffff"
    ∷ codes "target 3 s4 256 1 1 2 ffffffff" ∷ []) ≡ true
unfolding line_of target_form
target-lines = refl

pub no_target-lines : have_no_form First (codes "target 4 u1 1 1 1 1 00000000"
    ∷ codes "target 0 u5 1 1 1 1 00000000"
    ∷ codes "target 0 u1 0 1 1 1 00000000"
    ∷ codes "target 0 u1 257 1 1 1 00000000"
    ∷ codes "target 0 u1 1 0 1 1 00000000"
    ∷ codes "target 0 u1 1 257 1 1 00000000"
    ∷ codes "target 0 u1 1 1 0 1 00000000"
    ∷ codes "target 0 u1 1 1 5 1 00000000"
    ∷ codes "target 0 u1 1 1 1 0 00000000"
    ∷ codes "target 0 u1 1 1 1 3 00000000"
    ∷ codes "target 0 u1 1 1 1 1"
    ∷ codes "target 0 u2 1 1 1 1 00000000 00000000" ∷ []) ≡ true
unfolding line_of target_form
no_target-lines = refl

pub push-lines : have_forms First (codes "push 3 31 00000000"
    ∷ codes "push 0 0 00000000 00000000 00000000 00000000 00000000 00000000 00000000 00000000 00000000 00000000 00000000 00000000 00000000 00000000 00000000 00000000 00000000 00000000 00000000 00000000 00000000 00000000 00000000 00000000 00000000 00000000 00000000 00000000 00000000 00000000 00000000 00000000" ∷ []) ≡ true
unfolding line_of push_form
push-lines = refl

pub no_push-lines : have_no_form First (codes "push 0 0"
    ∷ codes "push 4 0 00000000"
    ∷ codes "push 0 32 00000000"
    ∷ codes "push 0 31 00000000 00000000"
    ∷ codes "push 0 - 00000000"
    ∷ codes "push 0 0 00000000 00000000 00000000 00000000 00000000 00000000 00000000 00000000 00000000 00000000 00000000 00000000 00000000 00000000 00000000 00000000 00000000 00000000 00000000 00000000 00000000 00000000 00000000 00000000 00000000 00000000 00000000 00000000 00000000 00000000 00000000 00000000 00000000" ∷ []) ≡ true
unfolding line_of push_form
no_push-lines = refl

pub vbuf-lines : have_forms First (codes "vbuf 3 3 -"
    ∷ codes "vbuf 0 0 99999999999999999999" ∷ []) ≡ true
unfolding line_of vbuf_form
vbuf-lines = refl

pub no_vbuf-lines : have_no_form First (codes "vbuf 4 0 -"
    ∷ codes "vbuf 0 4 -"
    ∷ codes "vbuf 0 0"
    ∷ codes "vbuf 0 0 01"
    ∷ codes "vbuf 0 0 - -" ∷ []) ≡ true
unfolding line_of vbuf_form
no_vbuf-lines = refl

pub ubuf-lines : have_forms First (codes "ubuf 3 3 7 -"
    ∷ codes "ubuf 0 0 0 99999999999999999999" ∷ []) ≡ true
unfolding line_of ubuf_form
ubuf-lines = refl

pub no_ubuf-lines : have_no_form First (codes "ubuf 4 0 0 -"
    ∷ codes "ubuf 0 4 0 -"
    ∷ codes "ubuf 0 0 8 -"
    ∷ codes "ubuf 0 0 -" ∷ []) ≡ true
unfolding line_of ubuf_form
no_ubuf-lines = refl

pub scissor-lines : have_forms First (codes "scissor 3 256 0 0 256"
    ∷ codes "scissor 0 0 256 256 0" ∷ []) ≡ true
unfolding line_of scissor_form
scissor-lines = refl

pub no_scissor-lines : have_no_form First (codes "scissor 4 0 0 0 0"
    ∷ codes "scissor 0 257 0 0 0"
    ∷ codes "scissor 0 256 0 1 0"
    ∷ codes "scissor 0 0 1 0 256"
    ∷ codes "scissor 0 0 0 0"
    ∷ codes "scissor 0 0 0 99999999999999999999 0" ∷ []) ≡ true
unfolding line_of scissor_form
no_scissor-lines = refl

pub bind-lines : have_forms First (codes "bind 3 - - - - -"
    ∷ codes "bind 0 0 1 2 3 99999999999999999999" ∷ []) ≡ true
unfolding line_of bind_form
bind-lines = refl

pub no_bind-lines : have_no_form First (codes "bind 4 - - - - -"
    ∷ codes "bind 0 - - - -"
    ∷ codes "bind 0 - - - - - -"
    ∷ codes "bind 0 - - - - - - - - -"
    ∷ codes "bind 0 - - - - 00" ∷ []) ≡ true
unfolding line_of bind_form
no_bind-lines = refl

pub draw-lines : have_forms First (codes "draw 3 0 4294967295 65536 4294967295 1"
    ∷ codes "draw 0 0 0 4294967295 0 0"
    ∷ codes "draw 0 99999999999999999999 0 256 0 256" ∷ []) ≡ true
unfolding line_of draw_form
draw-lines = refl

pub no_draw-lines : have_no_form First (codes "draw 4 0 0 1 0 1"
    ∷ codes "draw 0 - 0 1 0 1"
    ∷ codes "draw 0 0 4294967296 1 0 1"
    ∷ codes "draw 0 0 0 65537 0 1"
    ∷ codes "draw 0 0 0 4294967296 0 0"
    ∷ codes "draw 0 0 0 257 0 256"
    ∷ codes "draw 0 0 0 1 0"
    ∷ codes "draw 0 0 0 1 4294967296 1"
    ∷ codes "draw 0 0 0 1 0 1 0" ∷ []) ≡ true
unfolding line_of draw_form
no_draw-lines = refl

-- version 2 has wider lines
pub wide-lines : have_forms Second (codes "output 0 0 1:1 - - - - - - - - s4:15"
    ∷ codes "bind 3 - - - - - - - - -"
    ∷ codes "bind 0 0 1 2 3 4 5 6 7 8"
    ∷ codes "fragment 0 0 0 0 - - 0=00000000 0=00000000 0=00000000 0=00000000 0=00000000 0=00000000 0=00000000 0=00000000 0=00000000 0=00000000 0=00000000 0=00000000 0=00000000 0=00000000 0=00000000 0=00000000"
    ∷ codes "prerast 0 0 0 0 0 0 cw 0=00000000 0=00000000 0=00000000 0=00000000 0=00000000 0=00000000 0=00000000 0=00000000 0=00000000 0=00000000 0=00000000 0=00000000 0=00000000 0=00000000 0=00000000 0=00000000"
    ∷ codes "layout 0 0 - - - -" ∷ []) ≡ true
unfolding line_of output_form bind_form fragment_form prerast_form layout_form
wide-lines = refl

pub no_wide-lines : have_no_form Second (codes "output 0 0 1:1 - - - - -"
    ∷ codes "output 0 0 1:1 - - - - - - - - - -"
    ∷ codes "bind 0 - - - - -"
    ∷ codes "bind 0 - - - - - - - -"
    ∷ codes "bind 0 - - - - - - - - - -"
    ∷ codes "fragment 0 0 0 0 - - 0=00000000 0=00000000 0=00000000 0=00000000 0=00000000 0=00000000 0=00000000 0=00000000 0=00000000 0=00000000 0=00000000 0=00000000 0=00000000 0=00000000 0=00000000 0=00000000 0=00000000"
    ∷ codes "prerast 0 0 0 0 0 0 cw 0=00000000 0=00000000 0=00000000 0=00000000 0=00000000 0=00000000 0=00000000 0=00000000 0=00000000 0=00000000 0=00000000 0=00000000 0=00000000 0=00000000 0=00000000 0=00000000 0=00000000" ∷ []) ≡ true
unfolding line_of output_form bind_form fragment_form prerast_form layout_form
no_wide-lines = refl

-- ---- what a line says

abbrev said : List ℕ → Option Line
said text = line_of First text

pub said-data : said (codes "data 00000000 89abcdef") ≡ Some (data_line (0 ∷ 0x89ab_cdef ∷ []))
unfolding line_of data_form
said-data = refl

pub said-layout : said (codes "layout 1 32 - 255 0 5") ≡ Some (layout_line (record { independent = true; push_words = 32; sets = None ∷ Some 255 ∷ Some 0 ∷ Some 5 ∷ [] }))
unfolding line_of layout_form
said-layout = refl

pub said-vertex : said (codes "vertex 1 triangles v:3 i:1024 - - 7:1:s3:1023 2:0:u4:5") ≡ Some (vertex_line (record {
  retain = true;
  topology = Triangles;
  bindings = Some (record { stride = 3; per_instance = false }) ∷ Some (record { stride = 1024; per_instance = true }) ∷ None ∷ None ∷ [];
  attributes =
      record { location = 7; attribute = record { binding = 1; comps = 3; signed = true; offset = 1023 } }
      ∷ record { location = 2; attribute = record { binding = 0; comps = 4; signed = false; offset = 5 } } ∷ [];
}))
unfolding line_of vertex_form
said-vertex = refl

pub said-prerast : said (codes "prerast 0 11 22 13 1 2 ccw 7=0000000a 6=ffffffff") ≡ Some (prerast_line (record {
  retain = false;
  module_number = 11;
  layout_number = 22;
  view_mask = 13;
  discard = true;
  cull = 2;
  ccw = true;
  entries = record { id = 7; value = 10 } ∷ record { id = 6; value = 0xffff_ffff } ∷ [];
}))
unfolding line_of prerast_form
said-prerast = refl

pub said-fragment : said (codes "fragment 1 11 22 13 5:1 4:9 7=0000000a") ≡ Some (fragment_line (record {
  retain = true;
  module_number = 11;
  layout_number = 22;
  view_mask = 13;
  depth = Some (record { compare = 5; write = true });
  multisample = Some (record { samples = 4; mask = 9 });
  entries = record { id = 7; value = 10 } ∷ [];
}))
unfolding line_of fragment_form
said-fragment = refl

pub said-output : said (codes "output 0 13 2:1 15 s3:5 - u1:1 -") ≡ Some (output_line (record {
  retain = false;
  view_mask = 13;
  multisample = record { samples = 2; mask = 1 };
  logic = Some 15;
  attachments =
      Some (record { format = 7; write_mask = 5 }) ∷ None ∷ Some (record { format = 1; write_mask = 1 }) ∷ None ∷ None ∷ None ∷ None ∷ None ∷ [];
}))
unfolding line_of output_form
said-output = refl

pub said-pipe : said (codes "pipe 3 1 2") ≡ Some (pipe_line (3 ∷ 1 ∷ 2 ∷ []))
unfolding line_of pipe_form
said-pipe = refl

pub said-target : said (codes "target 2 s2 3 1 2 4 00000007") ≡ Some (target_line 2 (record { format = 6; width = 3; height = 1; layers = 2; samples = 4; words = replicate 48 7 }))
unfolding line_of target_form
said-target = refl

pub said-push : said (codes "push 1 30 00000005 00000006") ≡ Some (step_line 1 (Push 30 (5 ∷ 6 ∷ [])))
unfolding line_of push_form
said-push = refl

pub said-vbuf : said (codes "vbuf 1 2 3") ≡ Some (step_line 1 (Vbuf 2 (Some 3)))
unfolding line_of vbuf_form
said-vbuf = refl

pub said-ubuf : said (codes "ubuf 1 2 7 -") ≡ Some (step_line 1 (Ubuf 2 7 None))
unfolding line_of ubuf_form
said-ubuf = refl

pub said-scissor : said (codes "scissor 3 1 2 255 254") ≡ Some (step_line 3 (Scissor (1 ∷ 2 ∷ 255 ∷ 254 ∷ [])))
unfolding line_of scissor_form
said-scissor = refl

pub said-bind : said (codes "bind 2 - 5 6 - 7") ≡ Some (step_line 2 (Bind (None ∷ Some 5 ∷ Some 6 ∷ None ∷ None ∷ None ∷ None ∷ None ∷ []) (Some 7)))
unfolding line_of bind_form
said-bind = refl

pub said-draw : said (codes "draw 2 5 6 7 8 9") ≡ Some (step_line 2 (Draw 5 (record { first_vertex = 6; vertices = 7; first_instance = 8; instances = 9 })))
unfolding line_of draw_form
said-draw = refl
