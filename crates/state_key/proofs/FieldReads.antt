-- Each field is read back from the word that it was packed into.
use Rattle.std.proofs.Common.{◌≡◌, ◌==◌, ℕ, ◌+◌, ◌-◌, ◌^◌, ◌<◌, ◌≤◌, Bool, true, false, nat_lt, Option, Some, None, IfSome, is_some, refl, arith, ◌⊎◌}
use Rattle.std.proofs.lemmas.Bool.Decides.{nat_tests}
use Rattle.std.proofs.Math.Pow.{pow_mono}
use Rattle.state_model.specs.Lawful.{IsVertexBinding, IsAttribute, IsEntry, IsDepth, IsMultisample, IsAttachment}
use Rattle.state_model.specs.Key.{bit, binding_word, attribute_word, entry_word, depth_word, multisample_word, logic_word, attachment_byte}
use Rattle.state_model.specs.declared.parts.VertexBinding.{VertexBinding}
use Rattle.state_model.specs.declared.parts.Attribute.{Attribute}
use Rattle.state_model.specs.declared.parts.Entry.{Entry}
use Rattle.state_model.specs.declared.parts.Depth.{Depth}
use Rattle.state_model.specs.declared.parts.Multisample.{Multisample}
use Rattle.state_model.specs.declared.parts.Attachment.{Attachment}
use Rattle.state_key.specs.Unpacked.{field, flag, binding_of, attribute_of, entry_of, depth_of, multisample_of, logic_of, attachment_of}
use Rattle.state_key.proofs.Packing.{write_mask_small}

pub bit-le : (b : Bool) → bit b ≤ 1
bit-le true = omega arith
bit-le false = omega arith

pub flag_bit : (w at : ℕ) (b : Bool) → field w at 1 ≡ bit b → flag w at ≡ b
flag_bit w at true e = rw e
flag_bit w at false e = rw e

there : (b : VertexBinding) (w : ℕ) → flag w 0 ≡ true → field w 32 32 ≡ b.stride → flag w 1 ≡ b.per_instance → binding_of w ≡ Some b
there b w f s p = rw (f, s, p)

pub binding_back : (b : Option VertexBinding) → IfSome b IsVertexBinding → binding_of (binding_word b) ≡ b
binding_back None h = refl
binding_back (Some b) h =
    let w : ℕ = binding_word (Some b) in
    let one = bit-le b.per_instance in
    there b w (flag_bit w 0 true (omega arith)) (omega arith) (flag_bit w 1 b.per_instance (omega arith))

attribute_there : (a : Attribute) (w : ℕ) → flag w 0 ≡ true → field w 8 2 ≡ a.binding → field w 4 3 ≡ a.comps → flag w 1 ≡ a.signed → field w 32 32 ≡ a.offset → attribute_of w ≡ Some a
attribute_there a w f b c s o = rw (f, b, c, s, o)

pub attribute_back : (a : Option Attribute) → IfSome a IsAttribute → attribute_of (attribute_word a) ≡ a
attribute_back None h = refl
attribute_back (Some a) h =
    let w : ℕ = attribute_word (Some a) in
    let one = bit-le a.signed in
    attribute_there a w (flag_bit w 0 true (omega arith)) (omega arith) (omega arith) (flag_bit w 1 a.signed (omega arith)) (omega arith)

depth_there : (d : Depth) (w : ℕ) → flag w 0 ≡ true → field w 4 3 ≡ d.compare → flag w 1 ≡ d.write → depth_of w ≡ Some d
depth_there d w f c e = rw (f, c, e)

pub depth_back : (d : Option Depth) → IfSome d IsDepth → depth_of (depth_word d) ≡ d
depth_back None h = refl
depth_back (Some d) h =
    let w : ℕ = depth_word (Some d) in
    let one = bit-le d.write in
    depth_there d w (flag_bit w 0 true (omega arith)) (omega arith) (flag_bit w 1 d.write (omega arith))

multisample_there : (m : Multisample) (w : ℕ) → field w 0 3 ≡ m.samples → field w 4 4 ≡ m.mask → multisample_of w ≡ m
multisample_there m w s k = rw (s, k)

samples_few : (n : ℕ) → (n ≡ 1) ⊎ (n ≡ 2) ⊎ (n ≡ 4) → n ≤ 4
samples_few n h = grind arith

few_samples : (m : Multisample) → IsMultisample m → (m.samples ≤ 4) × (m.mask < 16)
few_samples m h =
    let few : m.samples ≤ 4 = samples_few m.samples h.samples in
    let bound : 2 ^ m.samples ≤ 2 ^ 4 = pow_mono {i = m.samples} {j = 4} few in
    (few, omega (arith, h.mask))

pub multisample_back : (m : Multisample) → IsMultisample m → multisample_of (multisample_word m) ≡ m
multisample_back m h =
    let few = few_samples m h in
    multisample_there m (multisample_word m) (omega arith) (omega arith)

pub logic_back : (op : Option ℕ) → IfSome op (λ op. op ≤ 15) → logic_of (logic_word op) ≡ op
logic_back None h = refl
logic_back (Some op) h = some_logic op (1 + op) refl h
  where
    some_logic : (op w : ℕ) → w ≡ 1 + op → op ≤ 15 → logic_of w ≡ Some op
    some_logic op w e h =
        let there : (w == 0) ≡ false = grind (arith, nat_tests) in
        let value : field (w - 1) 0 4 ≡ op = omega arith in
        rw (there, value)

attachment_there : (a : Attachment) (w : ℕ) → (w == 0) ≡ false → field w 0 4 ≡ a.format → field w 4 4 ≡ a.write_mask → attachment_of w ≡ Some a
attachment_there a w f c e = rw (f, c, e)

not_zero : (w : ℕ) → 0 < w → (w == 0) ≡ false
not_zero w h = grind (arith, nat_tests)

pub attachment_back : (a : Option Attachment) → IfSome a IsAttachment → attachment_of (attachment_byte a) ≡ a
attachment_back None h = refl
attachment_back (Some a) h =
    let small = write_mask_small a h in
    let w : ℕ = attachment_byte (Some a) in
    attachment_there a w (not_zero w (omega (arith, h.first_format))) (omega (arith, h.last_format)) (omega (arith, h.last_format))

entry_there : (e : Entry) (w : ℕ) → field w 32 32 ≡ e.id → field w 0 32 ≡ e.value → Some (record { id = field w 32 32; value = field w 0 32 }) ≡ Some e
entry_there e w i v = rw (i, v)

pub entry_back : (count i : ℕ) (e : Option Entry) → IfSome e IsEntry → nat_lt i count ≡ is_some e → entry_of count (entry_word e) i ≡ e
entry_back count i None h t = rw t
entry_back count i (Some e) h t =
    rw t (entry_there e (entry_word (Some e)) (omega (arith, h.value, h.id)) (omega (arith, h.value, h.id)))

pub attachment_byte_small : (a : Option Attachment) → IfSome a IsAttachment → attachment_byte a < 2 ^ 8
attachment_byte_small None h = omega arith
attachment_byte_small (Some a) h = let small = write_mask_small a h in omega (arith, h.last_format)
