-- Current versions: of a chain of a sound page one at most is current; and while nobody is open, a version is current or dead.
use Rattle.std.proofs.Common.{◌≡◌, ◌⊎◌, ℕ, zero, suc, true, false, List, [], Option, Some, inl, inr, ⊎_elim, refl, sym, ap, ◌∙◌, subst}
use Rattle.std.proofs.lemmas.Bool.{cases_Bool}
use Rattle.std.proofs.lemmas.Option.{same_Some}
use Rattle.xid_circle.proofs.Members.{Contains-none}
use Rattle.xid_circle.specs.Following.{ReachesIn}
use Rattle.tuple_header.specs.Version.{Version}
use Rattle.tuple_header.specs.Marks.{is_frozen}
use Rattle.tuple_header.specs.declared.version.Header.{Header}
use Rattle.page_sheet.specs.declared.slot.Slot.{Slot}
use Rattle.page_sheet.specs.Slots.{version_at}
use Rattle.commit_status.specs.declared.status.Status.{Status}
use Rattle.commit_status.specs.declared.status.Status.TheVariants.{InProgress, Committed, Aborted}
use Rattle.commit_status.specs.Window.{Window, IsWindow, IsActive, IsGiven, IsCommitted, place, status_of, next_id}
use Rattle.commit_status.proofs.Places.{is-from_some}
use Rattle.commit_status.proofs.Giving.{finished-place}
use Rattle.snapshot.specs.Snap.{empty_at}
use Rattle.visibility.specs.Seeing.{Reads}
use Rattle.visibility.specs.Visible.{IsFrozen, ReadsIn, IsDead}
use Rattle.visibility.proofs.Makers.{visible-of, made-of, kept-of, committed-to, committed-from}
use Rattle.visibility.proofs.Statements.{given-before, statement-reads}
use Rattle.hot_chain.specs.Chain.{has_aborted}
use Rattle.sound_page.specs.Links.{link}
use Rattle.sound_page.specs.Sound.{IsIn, SoundPage}
use Rattle.sound_page.proofs.Links.{link-of}
use Rattle.sound_page.proofs.Undone.{committed-some}
use Rattle.index_making.specs.Making.{IsCurrent}

-- Whether a version is current.

-- whoever counts what has committed, and nothing else, reads an id exactly where it has
current-reads : (w : Window) (x : ℕ) → ReadsIn w (empty_at (next_id w)) [] x → IsCommitted w x
current-reads w x (Reads.by_itself own) = absurd (Contains-none x own)
current-reads w x (Reads.by_others seen done) = committed-to w x done

reads-committed : (w : Window) (x : ℕ) → IsWindow w → IsCommitted w x → ReadsIn w (empty_at (next_id w)) [] x
reads-committed w x is done = (statement-reads w [] x is).1 (Reads.by_others (committed-from w x done) (committed-from w x done))

-- its inserter has committed
pub current-made : (w : Window) (h : Header) → IsCurrent w h → IsFrozen h ⊎ IsCommitted w h.xmin.0
current-made w h current = ⊎_elim (λ frozen. inl frozen) (λ reads. inr (current-reads w h.xmin.0 reads)) (made-of (ReadsIn w (empty_at (next_id w)) []) h current)

-- and its deleter has not
pub current-kept : (w : Window) (h : Header) → IsWindow w → IsCurrent w h → ¬ IsCommitted w h.xmax.0
current-kept w h is current done = kept-of (ReadsIn w (empty_at (next_id w)) []) h current (committed-some w h.xmax.0 done) (reads-committed w h.xmax.0 is done)

is-current : (w : Window) (h : Header) → IsWindow w → IsFrozen h ⊎ IsCommitted w h.xmin.0 → ¬ IsCommitted w h.xmax.0 → IsCurrent w h
is-current w h is made kept = visible-of (ReadsIn w (empty_at (next_id w)) []) h
    (⊎_elim (λ frozen. inl frozen) (λ done. inr (reads-committed w h.xmin.0 is done)) made)
    (λ some reads. kept (current-reads w h.xmax.0 reads))

-- While nobody is open, a version that an id of the window made, or that is frozen, is dead at the next id or current.
pub dead-or_current : (w : Window) (h : Header) → IsWindow w → ((x : ℕ) → ¬ IsActive w x) → (¬ IsFrozen h → IsGiven w h.xmin.0) → IsDead w (next_id w) h ⊎ IsCurrent w h
dead-or_current w h is ended made = deleted (status_of w h.xmax.0) refl
  where
    -- nobody has deleted it
    inserted : ¬ IsCommitted w h.xmax.0 → ¬ IsFrozen h → (s : Status) → status_of w h.xmin.0 ≡ s → IsDead w (next_id w) h ⊎ IsCurrent w h
    inserted kept thawed Committed e = inr (is-current w h is (inr e) kept)
    inserted kept thawed Aborted e = inl (IsDead.never_was thawed e)
    inserted kept thawed InProgress e = absurd (ended h.xmin.0 (record { is_given = made thawed; unfinished = e }))

    undeleted : ¬ IsCommitted w h.xmax.0 → IsDead w (next_id w) h ⊎ IsCurrent w h
    undeleted kept = ⊎_elim
        (λ frozen. inr (is-current w h is (inl frozen) kept))
        (λ cold. inserted kept (λ frozen. let e : true ≡ false = sym frozen ∙ cold in absurd (cc)) (status_of w h.xmin.0) refl)
        (cases_Bool (is_frozen h))

    deleted : (s : Status) → status_of w h.xmax.0 ≡ s → IsDead w (next_id w) h ⊎ IsCurrent w h
    deleted Committed e =
        let at = finished-place w h.xmax.0 (λ active. let f : Committed ≡ InProgress = sym e ∙ active in absurd (cc)) in
        inl (IsDead.is_past e (given-before w h.xmax.0 is (is-from_some (place w h.xmax.0) at.0 at.1)))
    deleted Aborted e = undeleted (λ done. let f : Aborted ≡ Committed = sym e ∙ done in absurd (cc))
    deleted InProgress e = undeleted (λ done. let f : InProgress ≡ Committed = sym e ∙ done in absurd (cc))

-- Along a chain.

-- what leads to a version that was made, was deleted
link-deleted : (w : Window) (slots : List Slot) (a b : ℕ) (t u : Version) → SoundPage w slots → link w slots a ≡ Some b
    → version_at slots a ≡ Some t → version_at slots b ≡ Some u → IsFrozen u.header ⊎ IsCommitted w u.header.xmin.0 → IsCommitted w t.header.xmax.0
link-deleted w slots a b t u sound next at to made =
    let l = link-of (has_aborted w) slots a b next in
    let old : l.old ≡ t = same_Some l.old t (sym l.from ∙ at) in
    let new : l.new ≡ u = same_Some l.new u (sym l.to ∙ to) in
    let id : u.header.xmin.0 ≡ t.header.xmax.0 = ap (λ (v : Version). v.header.xmin.0) (sym new) ∙ l.made ∙ ap (λ (v : Version). v.header.xmax.0) old in
    ⊎_elim (λ frozen. absurd (sound.unfrozen a b u next to frozen)) (λ done. subst (IsCommitted w) id done) made

along-deleted : (w : Window) (slots : List Slot) (i a b : ℕ) (t u : Version) → SoundPage w slots → ReachesIn (link w slots) (suc i) a b
    → version_at slots a ≡ Some t → version_at slots b ≡ Some u → IsFrozen u.header ⊎ IsCommitted w u.header.xmin.0 → IsCommitted w t.header.xmax.0
along-deleted w slots zero a b t u sound along at to made =
    link-deleted w slots a along.0 t u sound along.1 at (ap (version_at slots) along.2 ∙ to) made
along-deleted w slots (suc i) a b t u sound along at to made =
    let l = link-of (has_aborted w) slots a along.0 along.1 in
    let gone = along-deleted w slots i along.0 b l.new u sound along.2 l.to to made in
    link-deleted w slots a along.0 t l.new sound along.1 at l.to (sound.made along.0 l.new l.to gone)

-- of two that one comes to from a third, one is the other, or one comes from one to the other
data Way (next : ℕ → Option ℕ) (a b : ℕ) : Type 0 where
  same : a ≡ b → Way next a b
  onward : (i : ℕ) → ReachesIn next (suc i) a b → Way next a b
  back : (i : ℕ) → ReachesIn next (suc i) b a → Way next a b

way : (next : ℕ → Option ℕ) (i j start a b : ℕ) → ReachesIn next i start a → ReachesIn next j start b → Way next a b
way next zero zero start a b to_a to_b = Way.same (sym to_a ∙ to_b)
way next zero (suc j) start a b to_a to_b = Way.onward j (subst (λ x. ReachesIn next (suc j) x b) to_a to_b)
way next (suc i) zero start a b to_a to_b = Way.back i (subst (λ x. ReachesIn next (suc i) x a) to_b to_a)
way next (suc i) (suc j) start a b to_a to_b =
    let one : to_b.0 ≡ to_a.0 = same_Some to_b.0 to_a.0 (sym to_b.1 ∙ to_a.1) in
    way next i j to_a.0 a b to_a.2 (subst (λ x. ReachesIn next j x b) one to_b.2)

-- two current versions of one chain are one
pub chain-one_current : (w : Window) (slots : List Slot) (root a b : ℕ) (t u : Version) → SoundPage w slots → IsWindow w
    → IsIn w slots root a → IsIn w slots root b → version_at slots a ≡ Some t → version_at slots b ≡ Some u → IsCurrent w t.header → IsCurrent w u.header → t ≡ u
chain-one_current w slots root a b t u sound is in_a in_b at_a at_b one other =
    let start : in_b.entry ≡ in_a.entry = same_Some in_b.entry in_a.entry (sym in_b.leads ∙ in_a.leads) in
    by (way (link w slots) in_a.later.turns in_b.later.turns in_a.entry a b in_a.later.along (subst (λ x. ReachesIn (link w slots) in_b.later.turns x b) start in_b.later.along))
  where
    by : Way (link w slots) a b → t ≡ u
    by (Way.same e) = same_Some t u (sym at_a ∙ ap (version_at slots) e ∙ at_b)
    by (Way.onward i along) = absurd (current-kept w t.header is one (along-deleted w slots i a b t u sound along at_a at_b (current-made w u.header other)))
    by (Way.back i along) = absurd (current-kept w u.header is other (along-deleted w slots i b a u t sound along at_b at_a (current-made w t.header one)))
