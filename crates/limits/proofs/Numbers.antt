-- Each limit as a plain number: what code and definitions share is held here once more.
use Rattle.std.proofs.Common.{◌≡◌, ◌^◌, refl}
use Rattle.limits.specs.declared.TheConstants.{KEY_WORDS, LOCATIONS, COMPONENTS, VERTEX_BINDINGS, DESCRIPTOR_SETS, DESCRIPTOR_BINDINGS, PUSH_WORDS, ENTRIES, ATTACHMENTS, MAX_STRIDE, MAX_OFFSET, MODULES, TRACE_BYTES, MODULE_WORDS, MAX_BOUND, TYPE_WORDS, NESTING, BACK_EDGES, MAX_SIDE, SUBPIXELS, GUARD_BAND}

pub key-words : KEY_WORDS ≡ 56
key-words = refl

pub locations : LOCATIONS ≡ 8
locations = refl

pub components : COMPONENTS ≡ 4
components = refl

pub vertex-bindings : VERTEX_BINDINGS ≡ 4
vertex-bindings = refl

pub descriptor-sets : DESCRIPTOR_SETS ≡ 4
descriptor-sets = refl

pub descriptor-bindings : DESCRIPTOR_BINDINGS ≡ 8
descriptor-bindings = refl

pub push-words : PUSH_WORDS ≡ 32
push-words = refl

pub entries : ENTRIES ≡ 16
entries = refl

pub attachments : ATTACHMENTS ≡ 8
attachments = refl

pub max-stride : MAX_STRIDE ≡ 1024
max-stride = refl

pub max-offset : MAX_OFFSET ≡ 1023
max-offset = refl

pub modules : MODULES ≡ 64
modules = refl

pub trace-bytes : TRACE_BYTES ≡ 16777216
trace-bytes = refl

pub module-words : MODULE_WORDS ≡ 16384
module-words = refl

pub max-bound : MAX_BOUND ≡ 65536
max-bound = refl

pub type-words : TYPE_WORDS ≡ 4096
type-words = refl

pub nesting : NESTING ≡ 64
nesting = refl

pub back-edges : BACK_EDGES ≡ 4096
back-edges = refl

pub max-side : MAX_SIDE ≡ 256
max-side = refl

pub subpixels : SUBPIXELS ≡ 256
subpixels = refl

pub guard-band : GUARD_BAND ≡ 2 ^ 20
guard-band = refl
