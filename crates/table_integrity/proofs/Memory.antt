-- The ids are as they were, though there may be more memory.
use Rattle.std.proofs.Common.{◌≡◌, ℕ, List, refl, sym, ◌∙◌, subst, ⊎_elim, inl, inr}
use Rattle.tuple_header.specs.declared.version.Header.{Header}
use Rattle.page_sheet.specs.declared.slot.Slot.{Slot}
use Rattle.commit_status.specs.Window.{Window, status_of}
use Rattle.commit_status.specs.Window as known
use Rattle.visibility.specs.Visible.{IsDead}
use Rattle.prune.specs.Cutting.{IsCut}
use Rattle.sound_page.specs.Sound.{SoundPage}
use Rattle.tuple_writes.proofs.Statuses.{goes_on-sound}
use Rattle.write_ids.specs.Ids.{SameIds}

abbrev pub window_of : ℕ → ℕ → List known.IdEntry → ℕ → Window
window_of first stop entries spare = record { first = first; stop_age = stop; entries = entries; spare = spare }

status-same : (f g s t p q : ℕ) (xs ys : List known.IdEntry) (x : ℕ) → g ≡ f → ys ≡ xs → status_of (window_of g t ys q) x ≡ status_of (window_of f s xs p) x
status-same f g s t p q xs ys x first entries = rw (first, entries) refl

module _ (w v : Window) (ids : SameIds w v) where
  pub same-status : (x : ℕ) → status_of v x ≡ status_of w x
  same-status x = status-same w.first v.first w.stop_age v.stop_age w.spare v.spare w.entries v.entries x ids.first ids.entries

  pub same-sound : (slots : List Slot) → SoundPage w slots → SoundPage v slots
  same-sound slots sound = goes_on-sound w v slots (record {
    aborted = λ n t at e. same-status t.header.xmax.0 ∙ e;
    aborted_maker = λ n t at thawed e. same-status t.header.xmin.0 ∙ e;
    committed = λ n t at thawed e. same-status t.header.xmin.0 ∙ e;
    made = λ n t at done. ⊎_elim (λ f. inl f) (λ c. inr (same-status t.header.xmin.0 ∙ c)) (sound.made n t at (sym (same-status t.header.xmax.0) ∙ done));
    undone = λ n t at thawed gone some. same-status t.header.xmax.0 ∙ sound.undone n t at thawed (sym (same-status t.header.xmin.0) ∙ gone) some;
  }) sound

-- what is cut

dead-same : (f s t p q : ℕ) (es : List known.IdEntry) (horizon : ℕ) (h : Header) → IsDead (window_of f t es q) horizon h → IsDead (window_of f s es p) horizon h
dead-same f s t p q es horizon h (IsDead.never_was thawed aborted) = IsDead.never_was thawed aborted
dead-same f s t p q es horizon h (IsDead.is_past done before) = IsDead.is_past done before

cut-same : (f s t p q : ℕ) (es : List known.IdEntry) (horizon : ℕ) (slots : List Slot) (n : ℕ) → IsCut (window_of f t es q) horizon slots n → IsCut (window_of f s es p) horizon slots n
cut-same f s t p q es horizon slots n c = record {
  last = c.last;
  later = c.later;
  dead = record { version = c.dead.version; there = c.dead.there; dead = dead-same f s t p q es horizon c.dead.version.header c.dead.dead };
}

pub cut-back : (w v : Window) (horizon : ℕ) (slots : List Slot) (n : ℕ) → SameIds w v → IsCut v horizon slots n → IsCut w horizon slots n
cut-back w v horizon slots n ids c =
    cut-same w.first w.stop_age v.stop_age w.spare v.spare w.entries horizon slots n
    (subst (λ (es : List known.IdEntry). IsCut (window_of w.first v.stop_age es v.spare) horizon slots n) ids.entries
    (subst (λ f. IsCut (window_of f v.stop_age v.entries v.spare) horizon slots n) ids.first c))
