-- What becomes of transactions leaves a page sound.
use Rattle.std.proofs.Common.{◌≡◌, ◌≢◌, ◌⊎◌, ℕ, zero, suc, Bool, true, false, not, ◌&&◌, ◌==◌, List, Option, Some, inl, inr, ⊎_elim, sym, ap, ◌∙◌, refl, subst}
use Rattle.std.specs.List.{Contains}
use Rattle.std.proofs.lemmas.Bool.{cases_Bool, and_parts, not-true}
use Rattle.std.proofs.lemmas.Option.{same_Some}
use Rattle.page_sheet.specs.declared.slot.Slot.{Slot}
use Rattle.page_sheet.specs.Slots.{version_at}
use Rattle.tuple_header.specs.Version.{Version}
use Rattle.tuple_header.specs.declared.version.Header.{Header}
use Rattle.tuple_header.specs.Marks.{is_hot_updated, is_frozen}
use Rattle.xid_circle.specs.Following.{ReachesIn}
use Rattle.commit_status.specs.declared.status.Status.{Status}
use Rattle.commit_status.specs.declared.status.Status.TheVariants.{InProgress, Committed, Aborted}
use Rattle.commit_status.specs.Window.{Window, IsWindow, IsActive, IsCommitted, IsAborted, status_of}
use Rattle.commit_status.specs.Changes.{Gives, Finishes}
use Rattle.commit_status.proofs.Giving.{gives-status}
use Rattle.commit_status.proofs.Finishing.{finishes-named, finishes-other, finishes-committed_old, commits-cases, aborts-committed}
use Rattle.visibility.specs.Visible.{IsFrozen}
use Rattle.hot_chain.specs.Chain.{has_aborted, is_replaced}
use Rattle.sound_page.specs.Links.{link, Reaches}
use Rattle.sound_page.specs.Sound.{IsIn, SomeRoot, SomeNext, SoundPage}
use Rattle.sound_page.proofs.Links.{IsLink, link-of, successor-from}
use Rattle.sound_page.proofs.Undone.{has-aborted, aborted-has, IsUndoneAt}
use Rattle.tuple_writes.specs.Laws.{DeletedWhatWasMade, AloneDeletedTheirs}

-- a change of statuses
pub record GoesOn (w v : Window) (slots : List Slot) : Type 0 where
  -- of ids that a version there names: its deleter, and its inserter unless it is frozen
  pub aborted : (n : ℕ) (t : Version) → version_at slots n ≡ Some t → IsAborted w t.header.xmax.0 → IsAborted v t.header.xmax.0
  pub aborted_maker : (n : ℕ) (t : Version) → version_at slots n ≡ Some t → ¬ IsFrozen t.header → IsAborted w t.header.xmin.0 → IsAborted v t.header.xmin.0
  pub committed : (n : ℕ) (t : Version) → version_at slots n ≡ Some t → ¬ IsFrozen t.header → IsCommitted w t.header.xmin.0 → IsCommitted v t.header.xmin.0
  pub made : (n : ℕ) (t : Version) → version_at slots n ≡ Some t → IsCommitted v t.header.xmax.0 → IsFrozen t.header ⊎ IsCommitted v t.header.xmin.0
  pub undone : (n : ℕ) (t : Version) → version_at slots n ≡ Some t → ¬ IsFrozen t.header → IsAborted v t.header.xmin.0
      → t.header.xmax.0 ≢ 0 → IsAborted v t.header.xmax.0

pub replaced-live : (a b : ℕ → Bool) (h : Header) → is_replaced a h ≡ true → b h.xmax.0 ≡ false → is_replaced b h ≡ true
replaced-live a b h e live =
    let outer = and_parts (is_hot_updated h && not (h.xmax.0 == 0)) (not (a h.xmax.0)) e in
    rw (outer.0, live) refl

pub replaced-alive : (a : ℕ → Bool) (h : Header) → is_replaced a h ≡ true → a h.xmax.0 ≡ false
replaced-alive a h e = not-true (a h.xmax.0) (and_parts (is_hot_updated h && not (h.xmax.0 == 0)) (not (a h.xmax.0)) e).1

live-before : (w v : Window) (x : ℕ) → (IsAborted w x → IsAborted v x) → has_aborted v x ≡ false → has_aborted w x ≡ false
live-before w v x f live = ⊎_elim
    (λ t. let gone = aborted-has v x (f (has-aborted w x t)) in absurd (cc))
    (λ e. e) (cases_Bool (has_aborted w x))

-- Links break where their deleter is aborted, and none comes.

link-back : (w v : Window) (slots : List Slot) (n k : ℕ) → GoesOn w v slots → link v slots n ≡ Some k → link w slots n ≡ Some k
link-back w v slots n k g next =
    let l = link-of (has_aborted v) slots n k next in
    let live = live-before w v l.old.header.xmax.0 (g.aborted n l.old l.from) l.live in
    successor-from (has_aborted w) slots n k l.old l.new l.from l.to (replaced-live (has_aborted v) (has_aborted w) l.old.header l.replaced live) l.place l.heap_only l.made

link-forth : (w v : Window) (slots : List Slot) (n k : ℕ) (l : IsLink (has_aborted w) slots n k) → has_aborted v l.old.header.xmax.0 ≡ false → link v slots n ≡ Some k
link-forth w v slots n k l live =
    successor-from (has_aborted v) slots n k l.old l.new l.from l.to (replaced-live (has_aborted w) (has_aborted v) l.old.header l.replaced live) l.place l.heap_only l.made

along-back : (w v : Window) (slots : List Slot) (i n k : ℕ) → GoesOn w v slots → ReachesIn (link v slots) i n k → ReachesIn (link w slots) i n k
along-back w v slots zero n k g same = same
along-back w v slots (suc i) n k g along =
    (along.0, link-back w v slots n along.0 g along.1, along-back w v slots i along.0 k g along.2)

reaches-back : (w v : Window) (slots : List Slot) (n k : ℕ) → GoesOn w v slots → Reaches (link v slots) n k → Reaches (link w slots) n k
reaches-back w v slots n k g r = record { turns = r.turns; along = along-back w v slots r.turns n k g r.along }

in-back : (w v : Window) (slots : List Slot) (root n : ℕ) → GoesOn w v slots → IsIn v slots root n → IsIn w slots root n
in-back w v slots root n g i = record { entry = i.entry; leads = i.leads; later = reaches-back w v slots i.entry n g i.later }

-- Behind a link that breaks everything is undone.

undone-next : (w v : Window) (slots : List Slot) (n k : ℕ) → SoundPage w slots → GoesOn w v slots
    → link w slots n ≡ Some k → IsUndoneAt v slots n → IsUndoneAt v slots k
undone-next w v slots n k sound g next u =
    let l = link-of (has_aborted w) slots n k next in
    let same : u.version ≡ l.old = same_Some u.version l.old (sym u.there ∙ l.from) in
    let thawed = subst (λ (o : Version). ¬ IsFrozen o.header) same u.thawed in
    let aborted = subst (λ (o : Version). IsAborted v o.header.xmin.0) same u.aborted in
    record {
      version = l.new;
      there = l.to;
      thawed = sound.unfrozen n k l.new next l.to;
      aborted = subst (IsAborted v) (sym l.made) (g.undone n l.old l.from thawed aborted l.deleter);
    }

undone-along : (w v : Window) (slots : List Slot) (i n k : ℕ) → SoundPage w slots → GoesOn w v slots
    → ReachesIn (link w slots) i n k → IsUndoneAt v slots n → IsUndoneAt v slots k
undone-along w v slots zero n k sound g same u = subst (IsUndoneAt v slots) same u
undone-along w v slots (suc i) n k sound g along u =
    undone-along w v slots i along.0 k sound g along.2 (undone-next w v slots n along.0 sound g along.1 u)

along-forth : (w v : Window) (slots : List Slot) (i n k : ℕ) → SoundPage w slots → GoesOn w v slots
    → ReachesIn (link w slots) i n k → ReachesIn (link v slots) i n k ⊎ IsUndoneAt v slots k
along-forth w v slots zero n k sound g same = inl same
along-forth w v slots (suc i) n k sound g along =
    let j = along.0 in
    let l = link-of (has_aborted w) slots n j along.1 in
    ⊎_elim
    (λ gone. inr (undone-along w v slots i j k sound g along.2 (record {
      version = l.new;
      there = l.to;
      thawed = sound.unfrozen n j l.new along.1 l.to;
      aborted = subst (IsAborted v) (sym l.made) (has-aborted v l.old.header.xmax.0 gone);
    })))
    (λ live. ⊎_elim (λ rest. inl (j, link-forth w v slots n j l live, rest)) (λ u. inr u) (along-forth w v slots i j k sound g along.2))
    (cases_Bool (has_aborted v l.old.header.xmax.0))

owned-forth : (w v : Window) (slots : List Slot) (n : ℕ) (t : Version) → SoundPage w slots → GoesOn w v slots
    → version_at slots n ≡ Some t → SomeRoot w slots n → (¬ IsFrozen t.header × IsAborted v t.header.xmin.0) ⊎ SomeRoot v slots n
owned-forth w v slots n t sound g at r = ⊎_elim
    (λ along. inr (record { root = r.root; leads = record { entry = r.leads.entry; leads = r.leads.leads; later = record { turns = r.leads.later.turns; along = along } } }))
    (λ u. let same : u.version ≡ t = same_Some u.version t (sym u.there ∙ at) in
    inl (subst (λ (o : Version). ¬ IsFrozen o.header) same u.thawed, subst (λ (o : Version). IsAborted v o.header.xmin.0) same u.aborted))
    (along-forth w v slots r.leads.later.turns r.leads.entry n sound g r.leads.later.along)

whole-forth : (w v : Window) (slots : List Slot) (n : ℕ) (t : Version) → SoundPage w slots → GoesOn w v slots
    → version_at slots n ≡ Some t → is_replaced (has_aborted v) t.header ≡ true → SomeNext v slots n
whole-forth w v slots n t sound g at replaced =
    let alive = replaced-alive (has_aborted v) t.header replaced in
    let live = live-before w v t.header.xmax.0 (g.aborted n t at) alive in
    let next = sound.whole n t at (replaced-live (has_aborted v) (has_aborted w) t.header replaced live) in
    let l = link-of (has_aborted w) slots n next.place next.next in
    let same : l.old ≡ t = same_Some l.old t (sym l.from ∙ at) in
    record { place = next.place; next = link-forth w v slots n next.place l (ap (λ (o : Version). has_aborted v o.header.xmax.0) same ∙ alive) }

pub goes_on-sound : (w v : Window) (slots : List Slot) → GoesOn w v slots → SoundPage w slots → SoundPage v slots
goes_on-sound w v slots g sound = record {
  few = sound.few;
  made = g.made;
  undone = g.undone;
  unfrozen = λ n k u next at. sound.unfrozen n k u (link-back w v slots n k g next) at;
  whole = λ n t at replaced. whole-forth w v slots n t sound g at replaced;
  ends = λ n k next r. sound.ends n k (link-back w v slots n k g next) (reaches-back w v slots k n g r);
  redirects = λ n k at. let t = sound.redirects n k at in record {
    version = t.version;
    there = t.there;
    heap_only = t.heap_only;
    made = ⊎_elim (λ f. inl f) (λ thawed. ⊎_elim (λ f. inl f)
        (λ c. inr (g.committed k t.version t.there (λ f. let e : true ≡ false = sym f ∙ thawed in absurd (cc)) c)) t.made) (cases_Bool (is_frozen t.version.header));
  };
  owned = λ n t at h. ⊎_elim (λ a. inl (a.0, g.aborted_maker n t at a.0 a.1)) (λ r. owned-forth w v slots n t sound g at r) (sound.owned n t at h);
  alone = λ a b n x y. sound.alone a b n (in-back w v slots a n g x) (in-back w v slots b n g y);
}

-- An id is given.

pub giving-sound : (w v : Window) (parent : Option ℕ) (slots : List Slot) → IsWindow w → IsWindow v → Gives w v parent → SoundPage w slots → SoundPage v slots
giving-sound w v parent slots before after gives sound = goes_on-sound w v slots (record {
  aborted = λ n t at e. same t.header.xmax.0 ∙ e;
  aborted_maker = λ n t at thawed e. same t.header.xmin.0 ∙ e;
  committed = λ n t at thawed e. same t.header.xmin.0 ∙ e;
  made = λ n t at done. ⊎_elim (λ f. inl f) (λ c. inr (same t.header.xmin.0 ∙ c)) (sound.made n t at (sym (same t.header.xmax.0) ∙ done));
  undone = λ n t at thawed gone some. same t.header.xmax.0 ∙ sound.undone n t at thawed (sym (same t.header.xmin.0) ∙ gone) some;
}) sound
  where
    same : (x : ℕ) → status_of v x ≡ status_of w x
    same x = gives-status w v parent x before after gives

-- Ids finish.

pub aborted-other : (w v : Window) (ids : List ℕ) (status : Status) (x : ℕ) → ((y : ℕ) → Contains ids y → IsActive w y) → Finishes w v ids status → IsAborted w x → IsAborted v x
aborted-other w v ids status x active f gone = finishes-other w v ids status x f (λ c. let e : Aborted ≡ InProgress = sym gone ∙ (active x c).unfinished in cc) ∙ gone

committed-other : (w v : Window) (ids : List ℕ) (x : ℕ) → Finishes w v ids Committed → IsAborted v x → IsAborted w x
committed-other w v ids x f gone = ⊎_elim
    (λ mine. let e : Aborted ≡ Committed = sym gone ∙ mine.2 in absurd (cc))
    (λ other. sym other.1 ∙ gone) (f.each x)

pub committing-sound : (w v : Window) (ids : List ℕ) (slots : List Slot) → ((x : ℕ) → Contains ids x → IsActive w x) → Finishes w v ids Committed
    → DeletedWhatWasMade w slots ids → SoundPage w slots → SoundPage v slots
committing-sound w v ids slots active f theirs sound = goes_on-sound w v slots (record {
  aborted = λ n t at gone. aborted-other w v ids Committed t.header.xmax.0 active f gone;
  aborted_maker = λ n t at thawed gone. aborted-other w v ids Committed t.header.xmin.0 active f gone;
  committed = λ n t at thawed done. old t.header.xmin.0 done;
  made = λ n t at done. ⊎_elim
      (λ mine. ⊎_elim (λ z. inl z) (λ made. inr (⊎_elim (λ c. old t.header.xmin.0 c) (λ c. finishes-named w v ids Committed t.header.xmin.0 f c) made)) (theirs n t at mine))
      (λ was. ⊎_elim (λ z. inl z) (λ c. inr (old t.header.xmin.0 c)) (sound.made n t at was))
      (commits-cases w v ids t.header.xmax.0 f done);
  undone = λ n t at thawed gone some.
      aborted-other w v ids Committed t.header.xmax.0 active f (sound.undone n t at thawed (committed-other w v ids t.header.xmin.0 f gone) some);
}) sound
  where
    old : (x : ℕ) → IsCommitted w x → IsCommitted v x
    old x done = finishes-committed_old w v ids Committed x active f done

pub aborting-sound : (w v : Window) (ids : List ℕ) (slots : List Slot) → ((x : ℕ) → Contains ids x → IsActive w x) → Finishes w v ids Aborted
    → AloneDeletedTheirs w slots ids → SoundPage w slots → SoundPage v slots
aborting-sound w v ids slots active f theirs sound = goes_on-sound w v slots (record {
  aborted = λ n t at gone. gone-old t.header.xmax.0 gone;
  aborted_maker = λ n t at thawed gone. gone-old t.header.xmin.0 gone;
  committed = λ n t at thawed done. old t.header.xmin.0 done;
  made = λ n t at done. ⊎_elim (λ z. inl z) (λ c. inr (old t.header.xmin.0 c)) (sound.made n t at (aborts-committed w v ids t.header.xmax.0 f done));
  undone = λ n t at thawed gone some. ⊎_elim
      (λ mine. ⊎_elim (λ none. absurd (some none))
      (λ deleted. ⊎_elim (λ was. gone-old t.header.xmax.0 was) (λ c. finishes-named w v ids Aborted t.header.xmax.0 f c) deleted) (theirs n t at thawed mine.0))
      (λ other. gone-old t.header.xmax.0 (sound.undone n t at thawed (sym other.1 ∙ gone) some))
      (f.each t.header.xmin.0);
}) sound
  where
    old : (x : ℕ) → IsCommitted w x → IsCommitted v x
    old x done = finishes-committed_old w v ids Aborted x active f done

    gone-old : (x : ℕ) → IsAborted w x → IsAborted v x
    gone-old x gone = aborted-other w v ids Aborted x active f gone
