-- Bytes that are read and written piece by piece.
use Rattle.std.proofs.Common.{◌≡◌, ℕ, List, ◌++◌, take, drop, sym, ap, ◌∙◌, append_assoc, take-append-drop, Option}
use Rattle.std.specs.Io.KnownBytes.{Appends, Keeps}
use Rattle.std.proofs.KnownBytes.{Appends-trans, Appends-kept}
use Rattle.gpl_play.specs.Writes.{WritesFront}

-- so much of the text was written, and this is left of it
pub record IsWritten (before now : Option (List ℕ)) (text rest : List ℕ) : Type 0 where
  pub done : List ℕ
  pub parts : text ≡ done ++ rest
  pub appended : Appends before now done

pub written_next : (before now next : Option (List ℕ)) (text rest after : List ℕ) (n : ℕ) → IsWritten before now text rest
    → Appends now next (take n rest) → after ≡ drop n rest → IsWritten before next text after
written_next before now next text rest after n w more is = record {
  done = w.done ++ take n rest;
  parts = w.parts ∙ ap (λ (r : List ℕ). w.done ++ r) (sym (take-append-drop n rest) ∙ ap (λ (r : List ℕ). take n rest ++ r) (sym is))
      ∙ sym (append_assoc w.done (take n rest) after);
  appended = Appends-trans before now next w.done (take n rest) w.appended more;
}

pub written_front : (before now next : Option (List ℕ)) (text rest : List ℕ) → IsWritten before now text rest → Keeps now next → WritesFront before next text
written_front before now next text rest w kept = (w.done, rest, w.parts, Appends-kept before now next w.done w.appended kept)
