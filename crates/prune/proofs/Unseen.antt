-- No reader sees a version that is cut.
use Rattle.std.proofs.Common.{◌≡◌, ◌⊎◌, ◌↔◌, ℕ, zero, suc, List, Some, inl, inr, ⊎_elim, sym, ◌∙◌, subst}
use Rattle.std.proofs.lemmas.Option.{same_Some}
use Rattle.xid_circle.specs.Following.{ReachesIn}
use Rattle.page_sheet.specs.declared.slot.Slot.{Slot}
use Rattle.page_sheet.specs.Slots.{version_at}
use Rattle.tuple_header.specs.Version.{Version}
use Rattle.commit_status.specs.Window.{Window, IsCommitted, IsAborted}
use Rattle.visibility.proofs.Makers.{made-of, kept-of}
use Rattle.visibility.specs.Seeing.{VisibleBy}
use Rattle.visibility.specs.Visible.{IsFrozen, ReadsIn, IsDead}
use Rattle.hot_chain.specs.Chain.{has_aborted}
use Rattle.sound_page.specs.Links.{link}
use Rattle.prune.specs.Cutting.{IsCut, RemovesVersions}
use Rattle.sound_page.specs.Readers.{FindsBy, IsPageReader, KeepsFound}
use Rattle.sound_page.specs.Sound.{SoundPage}
use Rattle.sound_page.proofs.Links.{link-of}
use Rattle.sound_page.proofs.ReaderLemmas.{open-reader}
use Rattle.sound_page.proofs.Undone.{committed-some, IsUndoneAt, undone-alone}

-- deleted by a committed id that the reader counts
pub record IsGone (w : Window) (slots : List Slot) (R : ℕ → Type 0) (n : ℕ) : Type 0 where
  pub version : Version
  pub there : version_at slots n ≡ Some version
  pub deleted : IsCommitted w version.header.xmax.0
  pub counted : R version.header.xmax.0

gone-before : (w : Window) (horizon : ℕ) (slots : List Slot) (R : ℕ → Type 0) (n k : ℕ) → SoundPage w slots → IsPageReader w horizon slots R
    → link w slots n ≡ Some k → IsGone w slots R k → IsGone w slots R n
gone-before w horizon slots R n k sound reader next gone =
    let l = link-of (has_aborted w) slots n k next in
    let same : gone.version ≡ l.new = same_Some gone.version l.new (sym gone.there ∙ l.to) in
    let deleted : IsCommitted w l.new.header.xmax.0 = subst (λ (v : Version). IsCommitted w v.header.xmax.0) same gone.deleted in
    let counted : R l.new.header.xmax.0 = subst (λ (v : Version). R v.header.xmax.0) same gone.counted in
    let thawed : ¬ IsFrozen l.new.header = sound.unfrozen n k l.new next l.to in
    let made : IsCommitted w l.new.header.xmin.0 = ⊎_elim (λ f. absurd (thawed f)) (λ c. c) (sound.made k l.new l.to deleted) in
    let seen : R l.new.header.xmin.0 = ⊎_elim (λ f. absurd (thawed f)) (λ r. r) (reader.in_order k l.new l.to deleted counted) in
    record {
      version = l.old;
      there = l.from;
      deleted = subst (IsCommitted w) l.made made;
      counted = subst R l.made seen;
    }

gone-along : (w : Window) (horizon : ℕ) (slots : List Slot) (R : ℕ → Type 0) (i n k : ℕ) → SoundPage w slots → IsPageReader w horizon slots R
    → ReachesIn (link w slots) i n k → IsGone w slots R k → IsGone w slots R n
gone-along w horizon slots R zero n k sound reader same gone = subst (IsGone w slots R) (sym same) gone
gone-along w horizon slots R (suc i) n k sound reader along gone =
    gone-before w horizon slots R n along.0 sound reader along.1 (gone-along w horizon slots R i along.0 k sound reader along.2 gone)

-- what is cut was never made, or the reader sees it deleted
pub cut-cases : (w : Window) (horizon : ℕ) (slots : List Slot) (R : ℕ → Type 0) (n : ℕ) → SoundPage w slots → IsPageReader w horizon slots R
    → IsCut w horizon slots n → IsUndoneAt w slots n ⊎ IsGone w slots R n
cut-cases w horizon slots R n sound reader cut = by cut.dead.version cut.dead.there cut.dead.dead
  where
    by : (t : Version) → version_at slots cut.last ≡ Some t → IsDead w horizon t.header → IsUndoneAt w slots n ⊎ IsGone w slots R n
    by t at (IsDead.never_was thawed aborted) =
        inl (undone-alone w slots cut.later.turns n cut.last cut.later.along (record { version = t; there = at; thawed = thawed; aborted = aborted }))
    by t at (IsDead.is_past done before) =
        inr (gone-along w horizon slots R cut.later.turns n cut.last sound reader cut.later.along
        (record { version = t; there = at; deleted = done; counted = reader.past t.header.xmax.0 done before }))

pub cut-unseen : (w : Window) (horizon : ℕ) (slots : List Slot) (R : ℕ → Type 0) (n : ℕ) (t : Version) → SoundPage w slots → IsPageReader w horizon slots R
    → version_at slots n ≡ Some t → VisibleBy R t.header → ¬ IsCut w horizon slots n
cut-unseen w horizon slots R n t sound reader at seen cut = ⊎_elim never gone (cut-cases w horizon slots R n sound reader cut)
  where
    never : IsUndoneAt w slots n → ⊥
    never u =
        let same : u.version ≡ t = same_Some u.version t (sym u.there ∙ at) in
        let thawed = subst (λ (v : Version). ¬ IsFrozen v.header) same u.thawed in
        let aborted = subst (λ (v : Version). IsAborted w v.header.xmin.0) same u.aborted in
        ⊎_elim (λ f. thawed f) (λ r. reader.none_aborted t.header.xmin.0 aborted r) (made-of R t.header seen)

    gone : IsGone w slots R n → ⊥
    gone g =
        let same : g.version ≡ t = same_Some g.version t (sym g.there ∙ at) in
        let deleted = subst (λ (v : Version). IsCommitted w v.header.xmax.0) same g.deleted in
        kept-of R t.header seen (committed-some w t.header.xmax.0 deleted) (subst (λ (v : Version). R v.header.xmax.0) same g.counted)

-- where all that goes would be cut, each reader finds what it found
pub removed-found : (w : Window) (horizon : ℕ) (slots after : List Slot) (R : ℕ → Type 0) → SoundPage w slots → RemovesVersions w horizon slots after
    → IsPageReader w horizon slots R → (n : ℕ) (t : Version) → FindsBy R slots n t ↔ FindsBy R after n t
removed-found w horizon slots after R sound removes reader n t = (
  (λ f. ⊎_elim (λ there. record { there = there; seen = f.seen }) (λ cut. absurd (cut-unseen w horizon slots R n t sound reader f.there f.seen cut)) (removes.gone n t f.there)),
  (λ f. record { there = removes.kept n t f.there; seen = f.seen }),
)

-- A snapshot with own ids is such a reader.

pub removed-keeps_found : (w : Window) (horizon : ℕ) (slots after : List Slot) → SoundPage w slots → RemovesVersions w horizon slots after → KeepsFound w horizon slots after
removed-keeps_found w horizon slots after sound removes s own r n t =
    removed-found w horizon slots after (ReadsIn w s own) sound removes (open-reader w horizon slots s own r) n t
