-- What each step does to a reader's agreement.
use Rattle.std.proofs.Common.{◌≡◌, ◌≢◌, ℕ, suc, List, [], ◌∷◌, ◌++◌, length, slice_get, Option, Some, None, refl, sym, ap, ◌∙◌, subst, inl, inr}
use Rattle.std.specs.Prelude.{IsSome, Contains}
use Rattle.std.proofs.lemmas.Bool.{cases_eq}
use Rattle.std.proofs.lemmas.Option.{same_Some, none-some}
use Rattle.xid_circle.specs.declared.Tid.{Tid}
use Rattle.tuple_header.specs.declared.version.Row.{Row}
use Rattle.tuple_header.specs.Version.{Version}
use Rattle.commit_status.specs.declared.status.Status.{Status}
use Rattle.history.specs.History.{Write, Transaction, committed, written, reading}
use Rattle.history.specs.World.{joined}
use Rattle.history.proofs.HistoryLemmas.{written-push, said-same, said-other}
use Rattle.std.specs.Option.{option_or, unwrap_or}
use Rattle.visibility.specs.Seeing.{HasCommitted, IsRunning, Reads, by_itself, by_others, Touches, made_by, deleted_by, inserter, deleter}
use Rattle.refinement.specs.Visible.{ReaderSees, At}
use Rattle.refinement.specs.Changes.{AddsVersion, Alters}
use Rattle.refinement.specs.Agrees.{ReaderAgrees, LevelsAgree}
use Rattle.refinement.proofs.ShowsLemmas.{Shows-same, Shows-add_unseen, Shows-add_seen, Shows-alter_same, Shows-alter_hidden}
use Rattle.visibility.proofs.Verdicts.{VisibleBy-same}
use Rattle.refinement.proofs.Versions.{Adds-cases, Alters-cases, active_unread}

-- the same is read and written
pub ReaderAgrees-same : {status status' : ℕ → Option Status} {store : Tid → Option Version} {history history' : List Transaction} {sees sees' : ℕ → Type 0} {start : ℕ} {own own' : List ℕ} {writes writes' : List Write}
    → ((p : Tid) (x : ℕ) (v : Version) → At store p v → Touches x v.header → Reads status sees own x → Reads status' sees' own' x)
    → ((p : Tid) (x : ℕ) (v : Version) → At store p v → Touches x v.header → Reads status' sees' own' x → Reads status sees own x)
    → ((x : ℕ) → Contains own x → Contains own' x)
    → ((k : ℕ) → written writes' k ≡ written writes k) → ((k : ℕ) → committed history' start k ≡ committed history start k)
    → ReaderAgrees status store history sees start own writes → ReaderAgrees status' store history' sees' start own' writes'
ReaderAgrees-same {status} {status'} {store} {history} {history'} {sees} {sees'} {start} {own} {own'} {writes} {writes'} to back still alike before h = record {
  rows = Shows-same (λ p v at seen. VisibleBy-same (λ x touch. to p x v at touch) (λ x touch. back p x v at touch) seen) (λ p v at seen. VisibleBy-same (λ x touch. back p x v at touch) (λ x touch. to p x v at touch) seen)
      (λ k. ap (λ o. unwrap_or o (committed history' start k)) (alike k) ∙ ap (λ r. unwrap_or (written writes k) r) (before k)) h.rows;
  whole = λ p y v at is reads x made. to p x v at (made_by made) (h.whole p y v at is (back p y v at (deleted_by is) reads) x made);
  covers = λ p v at seen wrote.
      let made = h.covers p v at (VisibleBy-same (λ x touch. back p x v at touch) (λ x touch. to p x v at touch) seen) (subst (λ o. IsSome o) (alike v.row.key) wrote) in
      (made.0, made.1, still made.0 made.2);
}

-- a version that the id x made and nothing deletes
pub record IsNew (x : ℕ) (v : Version) : Type 0 where
  pub made : inserter v.header ≡ Some x
  pub kept : deleter v.header ≡ None

pub touches_new : {x : ℕ} {v : Version} (y : ℕ) → IsNew x v → Touches y v.header → y ≡ x
touches_new {x} {v} y new (made_by is) = same_Some y x (sym is ∙ new.made)
touches_new {x} {v} y new (deleted_by is) = absurd (none-some y (sym new.kept ∙ is))

-- another's new version
pub ReaderAgrees-add_other : {status : ℕ → Option Status} {store store' : Tid → Option Version} {history : List Transaction} {sees : ℕ → Type 0} {start : ℕ} {own : List ℕ} {writes : List Write} (x : ℕ) (place : Tid) (new : Version)
    → AddsVersion store store' place new → IsNew x new → IsRunning status x → ¬ Contains own x
    → ReaderAgrees status store history sees start own writes → ReaderAgrees status store' history sees start own writes
ReaderAgrees-add_other {status} {store} {store'} {history} {sees} {start} {own} {writes} x place new adds is_new active foreign h = record {
  rows = Shows-add_unseen adds (λ p v at seen. seen) (λ p v at seen. seen) (λ seen. active_unread active foreign (seen.made x is_new.made)) h.rows;
  whole = λ p y u at is reads. elim (Adds-cases adds p u at) [
    | inl old ↦ h.whole p y u old is reads
    | inr now ↦ absurd (none-some y (sym is_new.kept ∙ (ap (λ (u : Version). deleter u.header) (sym now.1) ∙ is)))
  ];
  covers = λ p u at seen wrote. elim (Adds-cases adds p u at) [
    | inl old ↦ h.covers p u old seen wrote
    | inr now ↦ absurd (active_unread active foreign (seen.made x (ap (λ (u : Version). inserter u.header) now.1 ∙ is_new.made)))
  ];
}

-- the version as it was but for its deleter, which is x
pub record IsDeleted (x : ℕ) (v new : Version) : Type 0 where
  pub same_row : new.row ≡ v.row
  pub same_maker : inserter new.header ≡ inserter v.header
  pub by : deleter new.header ≡ Some x

-- what deletes the version, if anything does, has no effect on the reader
pub record IsIdle (status : ℕ → Option Status) (own : List ℕ) (v : Version) : Type 0 where
  pub uncommitted : (y : ℕ) → deleter v.header ≡ Some y → ¬ HasCommitted status y
  pub foreign : (y : ℕ) → deleter v.header ≡ Some y → ¬ Contains own y

-- and the reader sees the version as before

pub seen_deleted : {status : ℕ → Option Status} {sees : ℕ → Type 0} {own : List ℕ} {x : ℕ} {old new : Version} → IsDeleted x old new → IsRunning status x → ¬ Contains own x → ReaderSees status sees own old → ReaderSees status sees own new
seen_deleted {status} {sees} {own} {x} {old} {new} deleted active foreign seen = record {
  made = λ y is. seen.made y (sym deleted.same_maker ∙ is);
  kept = λ y is read. active_unread active foreign (subst (λ z. Reads status sees own z) (same_Some y x (sym is ∙ deleted.by)) read);
}

pub seen_undeleted : {status : ℕ → Option Status} {sees : ℕ → Type 0} {own : List ℕ} {x : ℕ} {old new : Version} → IsDeleted x old new → IsIdle status own old → ReaderSees status sees own new → ReaderSees status sees own old
seen_undeleted {status} {sees} {own} {x} {old} {new} deleted idle seen = record { made = λ y is. seen.made y (deleted.same_maker ∙ is); kept = unread }
  where
    unread : (y : ℕ) → deleter old.header ≡ Some y → ¬ Reads status sees own y
    unread y is (by_itself mine) = idle.foreign y is mine
    unread y is (by_others seen done) = idle.uncommitted y is done

-- another deletes a version
pub ReaderAgrees-delete_other : {status : ℕ → Option Status} {store store' : Tid → Option Version} {history : List Transaction} {sees : ℕ → Type 0} {start : ℕ} {own : List ℕ} {writes : List Write} (x : ℕ) (place : Tid) (old new : Version)
    → Alters store store' place old new → IsDeleted x old new → IsRunning status x → ¬ Contains own x → IsIdle status own old
    → ReaderAgrees status store history sees start own writes → ReaderAgrees status store' history sees start own writes
ReaderAgrees-delete_other {status} {store} {store'} {history} {sees} {start} {own} {writes} x place old new alters deleted active foreign idle h = record {
  rows = Shows-alter_same alters deleted.same_row (seen_deleted deleted active foreign) (seen_undeleted deleted idle) (λ p u bt seen. seen) (λ p u bt seen. seen) h.rows;
  whole = λ p y u bt is reads. elim (Alters-cases alters p u bt) [
    | inl same ↦ (let by : deleter u.header ≡ Some x = ap (λ (u : Version). deleter u.header) same.1 ∙ deleted.by in
        absurd (active_unread active foreign (subst (λ z. Reads status sees own z) (same_Some y x (sym is ∙ by)) reads)))
    | inr other ↦ h.whole p y u other.1 is reads
  ];
  covers = λ p u bt seen wrote. elim (Alters-cases alters p u bt) [
    | inl same ↦ (let key : u.row.key ≡ old.row.key = ap (λ (u : Version). u.row.key) same.1 ∙ ap (λ (r : Row). r.key) deleted.same_row in
        let made = h.covers place old alters.before (seen_undeleted deleted idle (subst (λ (u : Version). ReaderSees status sees own u) same.1 seen))
        (subst (λ k. IsSome (written writes k)) key wrote) in
        (made.0, ap (λ (u : Version). inserter u.header) same.1 ∙ (deleted.same_maker ∙ made.1), made.2))
    | inr other ↦ h.covers p u other.1 seen wrote
  ];
}

-- a write marks its key, and no other
pub written-push_same : (writes : List Write) (new : Write) → written (writes ++ new ∷ []) new.key ≡ Some new.row
written-push_same writes new = written-push writes new new.key ∙ ap (λ o. option_or o (written writes new.key)) (said-same new new.key refl)

pub written-push_other : (writes : List Write) (new : Write) (k : ℕ) → k ≢ new.key → written (writes ++ new ∷ []) k ≡ written writes k
written-push_other writes new k ne = written-push writes new k ∙ ap (λ o. option_or o (written writes k)) (said-other new k (λ same. ne (sym same)))

pub wrote_same : (writes : List Write) (new : Write) (k : ℕ) → k ≡ new.key → IsSome (written (writes ++ new ∷ []) k)
wrote_same writes new k same = subst (λ j. IsSome (written (writes ++ new ∷ []) j)) (sym same) (subst (λ o. IsSome o) (sym (written-push_same writes new)) refl)

pub wrote_before : (writes : List Write) (new : Write) (k : ℕ) → k ≢ new.key → IsSome (written (writes ++ new ∷ []) k) → IsSome (written writes k)
wrote_before writes new k ne wrote = subst (λ o. IsSome o) (written-push_other writes new k ne) wrote

pub wrote_still : (writes : List Write) (new : Write) (k : ℕ) → IsSome (written writes k) → IsSome (written (writes ++ new ∷ []) k)
wrote_still writes new k wrote = elim (cases_eq k new.key) [ inl same ↦ wrote_same writes new k same | inr ne ↦ subst (λ o. IsSome o) (sym (written-push_other writes new k ne)) wrote ]

-- the reader itself writes a row
pub ReaderAgrees-insert : {status : ℕ → Option Status} {store store' : Tid → Option Version} {history : List Transaction} {sees : ℕ → Type 0} {start : ℕ} {own : List ℕ} {writes : List Write} (since x : ℕ) (place : Tid) (new : Version)
    → AddsVersion store store' place new → IsNew x new → Contains own x → reading history start writes new.row.key ≡ None
    → ReaderAgrees status store history sees start own writes → ReaderAgrees status store' history sees start own (writes ++ record { start = since; key = new.row.key; row = Some new.row } ∷ [])
ReaderAgrees-insert {status} {store} {store'} {history} {sees} {start} {own} {writes} since x place new adds is_new mine none h = record {
  rows = Shows-add_seen adds (λ p v at seen. seen) (λ p v at seen. seen)
      (record { made = λ y is. by_itself (subst (λ z. Contains own z) (same_Some x y (sym is_new.made ∙ is)) mine); kept = λ y is. absurd (none-some y (sym is_new.kept ∙ is)) }) none
      (ap (λ o. unwrap_or o (committed history start new.row.key)) (written-push_same writes write))
      (λ k ne. ap (λ o. unwrap_or o (committed history start k)) (written-push_other writes write k ne))
      h.rows;
  whole = λ p y u at is reads. elim (Adds-cases adds p u at) [
    | inl old ↦ h.whole p y u old is reads
    | inr now ↦ absurd (none-some y (sym is_new.kept ∙ (ap (λ (u : Version). deleter u.header) (sym now.1) ∙ is)))
  ];
  -- of the new version's key it saw none before
  covers = λ p u at seen wrote. elim (Adds-cases adds p u at) [
    | inl old ↦ elim (cases_eq u.row.key new.row.key) [
      | inl same ↦ absurd (none-some u.row (sym none ∙ (ap (reading history start writes) (sym same) ∙ h.rows.sound p u old seen)))
      | inr ne ↦ h.covers p u old seen (wrote_before writes write u.row.key ne wrote)
    ]
    | inr now ↦ (x, ap (λ (u : Version). inserter u.header) now.1 ∙ is_new.made, mine)
  ];
}
  where
    write : Write
    write = record { start = since; key = new.row.key; row = Some new.row }

-- the reader itself deletes a version that it sees
pub ReaderAgrees-delete : {status : ℕ → Option Status} {store store' : Tid → Option Version} {history : List Transaction} {sees : ℕ → Type 0} {start : ℕ} {own : List ℕ} {writes : List Write} (since x : ℕ) (place : Tid) (old new : Version)
    → Alters store store' place old new → IsDeleted x old new → Contains own x → ReaderSees status sees own old
    → ReaderAgrees status store history sees start own writes → ReaderAgrees status store' history sees start own (writes ++ record { start = since; key = old.row.key; row = None } ∷ [])
ReaderAgrees-delete {status} {store} {store'} {history} {sees} {start} {own} {writes} since x place old new alters deleted mine seen_old h = record {
  rows = Shows-alter_hidden alters seen_old (λ seen. seen.kept x deleted.by (by_itself mine))
      (ap (λ o. unwrap_or o (committed history start old.row.key)) (written-push_same writes write))
      (λ k ne. ap (λ o. unwrap_or o (committed history start k)) (written-push_other writes write k ne))
      (λ p u bt seen. seen) (λ p u bt seen. seen) h.rows;
  whole = λ p y u bt is reads z made. elim (Alters-cases alters p u bt) [
    | inl same ↦ seen_old.made z (sym deleted.same_maker ∙ (ap (λ (u : Version). inserter u.header) (sym same.1) ∙ made))
    | inr other ↦ h.whole p y u other.1 is reads z made
  ];
  -- and of the old one's it sees none any more
  covers = λ p u bt seen wrote. elim (Alters-cases alters p u bt) [
    | inl same ↦ absurd (seen.kept x (ap (λ (u : Version). deleter u.header) same.1 ∙ deleted.by) (by_itself mine))
    | inr other ↦ elim (cases_eq u.row.key old.row.key) [
      | inl key ↦ absurd (other.0 (h.rows.one p place u old other.1 alters.before seen seen_old key))
      | inr ne ↦ h.covers p u other.1 seen (wrote_before writes write u.row.key ne wrote)
    ]
  ];
}
  where
    write : Write
    write = record { start = since; key = old.row.key; row = None }

-- each reader of a session, one by one
pub Levels-map : {status status' : ℕ → Option Status} {store store' : Tid → Option Version} {history history' : List Transaction} {sees sees' : ℕ → Type 0} {start : ℕ} (own : List ℕ) (saved : List (List ℕ)) (levels : List (List Write))
    → ((own' : List ℕ) (writes : List Write) → ((x : ℕ) → Contains own' x → Contains own x) → ReaderAgrees status store history sees start own' writes → ReaderAgrees status' store' history' sees' start own' writes)
    → LevelsAgree status store history sees start own saved levels → LevelsAgree status' store' history' sees' start own saved levels
Levels-map own [] [] to h = absurd h
Levels-map own [] (ws ∷ []) to h = to own (joined (ws ∷ [])) (λ x among. among) h
Levels-map own [] (ws ∷ (vs ∷ levels)) to h = absurd h
Levels-map own (before ∷ saved) [] to h = absurd h
Levels-map own (before ∷ saved) (ws ∷ levels) to h =
    (to own (joined (ws ∷ levels)) (λ x among. among) h.0, h.1, Levels-map before saved levels (λ own' writes among r. to own' writes (λ x y. h.1 x (among x y)) r) h.2)

-- the session as it is
pub Levels-top : {status : ℕ → Option Status} {store : Tid → Option Version} {history : List Transaction} {sees : ℕ → Type 0} {start : ℕ} (own : List ℕ) (saved : List (List ℕ)) (levels : List (List Write))
    → LevelsAgree status store history sees start own saved levels → ReaderAgrees status store history sees start own (joined levels)
Levels-top own [] [] h = absurd h
Levels-top own [] (ws ∷ []) h = h
Levels-top own [] (ws ∷ (vs ∷ levels)) h = absurd h
Levels-top own (before ∷ saved) [] h = absurd h
Levels-top own (before ∷ saved) (ws ∷ levels) h = h.0

-- what the newest savepoint had, the session has
pub Levels-within : (status : ℕ → Option Status) (store : Tid → Option Version) (history : List Transaction) (sees : ℕ → Type 0) (start : ℕ) (own : List ℕ) (saved : List (List ℕ)) (levels : List (List Write)) (before : List ℕ)
    → LevelsAgree status store history sees start own saved levels → slice_get saved 0 ≡ Some before → (x : ℕ) → Contains before x → Contains own x
Levels-within _ _ _ _ _ own [] levels before h is x among = absurd (none-some before is)
Levels-within _ _ _ _ _ own (first ∷ saved) [] before h is x among = absurd h
Levels-within _ _ _ _ _ own (first ∷ saved) (ws ∷ levels) before h is x among = h.1 x (subst (λ xs. Contains xs x) (sym (same_Some first before is)) among)

-- there is one level more than there are savepoints
pub Levels-count : (status : ℕ → Option Status) (store : Tid → Option Version) (history : List Transaction) (sees : ℕ → Type 0) (start : ℕ) (own : List ℕ) (saved : List (List ℕ)) (levels : List (List Write))
    → LevelsAgree status store history sees start own saved levels → length levels ≡ suc (length saved)
Levels-count _ _ _ _ _ own [] [] h = absurd h
Levels-count _ _ _ _ _ own [] (ws ∷ []) h = refl
Levels-count _ _ _ _ _ own [] (ws ∷ (vs ∷ levels)) h = absurd h
Levels-count _ _ _ _ _ own (before ∷ saved) [] h = absurd h
Levels-count status store history sees start own (before ∷ saved) (ws ∷ levels) h = ap suc (Levels-count status store history sees start before saved levels h.2)
