-- What every run keeps.
use Rattle.std.proofs.Common.{◌≡◌, ◌≢◌, ℕ, suc, ◌<◌, ◌≤◌, List, [], ◌∷◌, ◌++◌, length, Bool, true, false, cond, nat_eq, Option, Some, None, refl, sym, ap, ◌∙◌, subst, arith, ◌⊎◌, inl, inr, length-append, append_assoc}
use Rattle.std.specs.Prelude.{IsSome, Contains, if◌then◌else◌}
use Rattle.std.specs.Option.{option_map}
use Rattle.std.proofs.lemmas.Bool.{cases_eq, cases_lt}
use Rattle.std.proofs.lemmas.Option.{slice_get_within, same_Some, none-some}
use Rattle.std.proofs.lemmas.List.{append-nil}
use Rattle.std.proofs.lemmas.List.Elements.{Contains-push_cases, Contains-append_left}
use Rattle.tuple_header.specs.declared.version.Row.{Row}
use Rattle.history.specs.History.{Write, Transaction, written, reading, IsLate}
use Rattle.history.specs.World.{World, Isolation, by_snapshot, by_statement, OpenSession, beginning, joined, own_write, start_by, start_now, view, Holds, MayIndex, MayWrite}
use Rattle.history.specs.Moves.{put, change, free_to_scan, new_session, is_repeatable_read, is_open_by_snapshot, with_made_index, with_index_on, with_vacuum, add_write, with_write, as_failed, with_savepoint, empty_newest, to_savepoint, without_savepoint, without_cursor, aborted, appended, committed_by}
use Rattle.history.specs.Events.{Happens, passes, begins, begins_by_statement, inserts, updates, deletes, conflicts, waits, deadlocks, saves, rolls_back_to, releases, commits, aborts, opens_index, opens_heap, opens_keys, takes, takes_keys, closes, StepsReach, stays, goes_on, makes_index, begins_vacuum, ends_vacuum}
use Rattle.history.specs.Laws.{FirstCommitterWins, HeldInTime, HeldOnce, Grows, IsBySnapshot, KeepsView, NeverLate, NeverTooNew, KeepsIndexes}
use Rattle.history.proofs.Places.{slice_get-push_cases}
use Rattle.history.proofs.HistoryLemmas.{at_same, at_other, joined-add_write, joined-join_newest, IsLate-push_cases, IsLate-now, reading-append_history, among-written, written-among, fewer-written}

-- what holds after every step
pub record Lawful (w : World) : Type 0 where
  pub began : (s : ℕ) (m : OpenSession) → w.session s ≡ Some m → start_now w.history m ≤ length w.history
  pub in_time : HeldInTime w
  pub once : HeldOnce w
  pub first : FirstCommitterWins w.history
  pub scans : NeverTooNew w

-- the session s may be m: what it has written is in time, and no other holds it; by statement no index is too new for it
pub record MayBe (w : World) (s : ℕ) (m : OpenSession) : Type 0 where
  pub in_time : (write : Write) → Contains (joined m.levels) write → ¬ IsLate w.history write.start write.key
  pub unheld : (key o : ℕ) → IsSome (own_write m key) → o ≢ s → ¬ Holds w o key
  pub scans : (index : ℕ) → m.isolation ≡ by_statement → w.too_new s index ≡ false

pub Lawful-beginning : (columns : List Bool) → Lawful (beginning columns)
Lawful-beginning columns = record {
  began = λ s m at. cc;
  in_time = λ s m write at among. absurd (none-some m at);
  once = λ s o key holds held. absurd (let at = holds.1 in cc);
  first = λ m n a b at. absurd (none-some at.0 at.1);
  scans = λ s index m at is. refl;
}

-- the sessions after one has become something else
pub session-put_cases : (w : World) (s : ℕ) (new : Option OpenSession) (t : ℕ) (m : OpenSession)
    → (put w s new).session t ≡ Some m → ((t ≢ s) × (w.session t ≡ Some m)) ⊎ ((t ≡ s) × (new ≡ Some m))
session-put_cases w s new t m at = elim (cases_eq t s) [
  | inl same ↦ inr (same, sym (at_same s new (w.session s)) ∙ subst (λ t. (put w s new).session t ≡ Some m) same at)
  | inr ne ↦ inl (ne, sym (at_other t s new (w.session t) ne) ∙ at)
]

-- one session changes
pub Lawful-put : (w : World) (s : ℕ) (m : OpenSession) → Lawful w → start_now w.history m ≤ length w.history
    → MayBe w s m → Lawful (put w s (Some m))
Lawful-put w s m h began may = record {
  began = λ t n at. elim (cases_at t n at) [
    | inl other ↦ h.began t n other.1
    | inr same ↦ subst (λ (n : OpenSession). start_now w.history n ≤ length w.history) (sym same.1) began
  ];
  in_time = λ t n write at among. elim (cases_at t n at) [
    | inl other ↦ h.in_time t n write other.1 among
    | inr same ↦ may.in_time write (subst (λ (n : OpenSession). Contains (joined n.levels) write) same.1 among)
  ];
  once = λ t o key holds held. elim (cases_at t holds.0 holds.1) [
    | inl other ↦ elim (cases_at o held.0 held.1) [
      | inl other' ↦ h.once t o key (holds.0, other.1, holds.2) (held.0, other'.1, held.2)
      | inr same' ↦ absurd (may.unheld key t (subst (λ n. IsSome (own_write n key)) same'.1 held.2) other.0 (holds.0, other.1, holds.2))
    ]
    | inr same ↦ elim (cases_at o held.0 held.1) [
      | inl other' ↦ absurd (may.unheld key o (subst (λ n. IsSome (own_write n key)) same.1 holds.2) other'.0 (held.0, other'.1, held.2))
      | inr same' ↦ same.0 ∙ sym same'.0
    ]
  ];
  first = h.first;
  scans = λ t index n at is. elim (cases_at t n at) [
    | inl other ↦ h.scans t index n other.1 is
    | inr same ↦ subst (λ t. w.too_new t index ≡ false) (sym same.0) (may.scans index (ap (λ (n : OpenSession). n.isolation) (sym same.1) ∙ is))
  ];
}
  where
    cases_at : (t : ℕ) (n : OpenSession) → (put w s (Some m)).session t ≡ Some n → ((t ≢ s) × (w.session t ≡ Some n)) ⊎ ((t ≡ s) × (n ≡ m))
    cases_at t n at = elim (session-put_cases w s (Some m) t n at) [ inl other ↦ inl other | inr same ↦ inr (same.0, same_Some n m (sym same.1)) ]

pub session-ended : (w : World) (s t : ℕ) (m : OpenSession) → (put w s None).session t ≡ Some m → (t ≢ s) × (w.session t ≡ Some m)
session-ended w s t m at = elim (session-put_cases w s None t m at) [ inl other ↦ other | inr same ↦ absurd (none-some m same.1) ]

-- one session ends
pub Lawful-idle : (w : World) (s : ℕ) → Lawful w → Lawful (put w s None)
Lawful-idle w s h = record {
  began = λ t n at. h.began t n (session-ended w s t n at).1;
  in_time = λ t n write at among. h.in_time t n write (session-ended w s t n at).1 among;
  once = λ t o key holds held. h.once t o key (holds.0, (session-ended w s t holds.0 holds.1).1, holds.2) (held.0, (session-ended w s o held.0 held.1).1, held.2);
  first = h.first;
  scans = λ t index n at is. h.scans t index n (session-ended w s t n at).1 is;
}

-- nobody waits for it
pub Lawful-aborted : (w : World) (s : ℕ) → Lawful w → Lawful (aborted w s)
Lawful-aborted w s h = let ended = Lawful-idle w s h in record { began = ended.began; in_time = ended.in_time; once = ended.once; first = ended.first; scans = ended.scans }

-- a session may be what it is
pub may_be : (w : World) (s : ℕ) (m : OpenSession) → Lawful w → w.session s ≡ Some m → MayBe w s m
may_be w s m h at = record {
  in_time = λ write among. h.in_time s m write at among;
  unheld = λ key o wrote ne held. ne (h.once o s key held (m, at, wrote));
  scans = λ index is. h.scans s index m at is;
}

-- a session changes, and has no more writes than before
pub Lawful-change : (w : World) (s : ℕ) (f : OpenSession → OpenSession) (m : OpenSession) → Lawful w → w.session s ≡ Some m → (f m).isolation ≡ m.isolation
    → ((write : Write) → Contains (joined (f m).levels) write → Contains (joined m.levels) write) → Lawful (change w s f)
Lawful-change w s f m h at same fewer =
    let may = may_be w s m h at in
    subst (λ n. Lawful (put w s n)) (sym (ap (option_map f) at))
    (Lawful-put w s (f m) h (subst (λ isolation. start_by isolation w.history ≤ length w.history) (sym same) (h.began s m at)) (record {
      in_time = λ write among. may.in_time write (fewer write among);
      unheld = λ key o wrote. may.unheld key o (fewer-written (joined (f m).levels) (joined m.levels) fewer key wrote);
      scans = λ index is. may.scans index (sym same ∙ is);
    }))

-- it has one write more
pub Lawful-write : (w : World) (s key : ℕ) (row : Option Row) (m : OpenSession) → Lawful w → MayWrite w s key m
    → Lawful (change w s (with_write w.history key row))
Lawful-write w s key row m h may =
    subst (λ n. Lawful (put w s n)) (sym (ap (option_map (with_write w.history key row)) at))
    (Lawful-put w s (with_write w.history key row m) h (h.began s m at) (record { in_time = in_time; unheld = unheld; scans = (may_be w s m h at).scans }))
  where
    at : w.session s ≡ Some m
    at = may.writer.ready.there

    new : Write
    new = record { start = start_now w.history m; key = key; row = row }

    cases : (write : Write) → Contains (joined (add_write new m.levels)) write → Contains (joined m.levels) write ⊎ (new ≡ write)
    cases write among = Contains-push_cases (joined m.levels) new write (subst (λ ws. Contains ws write) (joined-add_write new m.levels) among)

    in_time : (write : Write) → Contains (joined (add_write new m.levels)) write → ¬ IsLate w.history write.start write.key
    in_time write among = elim (cases write among) [
      | inl old ↦ h.in_time s m write at old
      | inr is ↦ subst (λ (write : Write). ¬ IsLate w.history write.start write.key) is may.in_time
    ]

    unheld : (k o : ℕ) → IsSome (written (joined (add_write new m.levels)) k) → o ≢ s → ¬ Holds w o k
    unheld k o wrote ne = let one = written-among (joined (add_write new m.levels)) k wrote in elim (cases one.0 one.1) [
      | inl old ↦ (may_be w s m h at).unheld k o (subst (λ k. IsSome (own_write m k)) one.2 (among-written (joined m.levels) one.0 old)) ne
      | inr is ↦ subst (λ k. ¬ Holds w o k) (ap (λ (write : Write). write.key) is ∙ one.2) (may.unheld o ne)
    ]

-- no start is later than the end of a history that has grown
start_by-longer : (history more : List Transaction) (isolation : Isolation) → start_by isolation history ≤ length history → start_by isolation (history ++ more) ≤ length (history ++ more)
start_by-longer history more (by_snapshot start) le = rw (length-append history more) (omega arith)
start_by-longer history more by_statement le = omega arith

-- the session's transaction joins the history
pub Lawful-commit : (w : World) (s : ℕ) (m : OpenSession) → Lawful w → w.session s ≡ Some m → Lawful (committed_by w s)
Lawful-commit w s m h at = subst (λ n. Lawful (record (aborted w s) { history = appended w.history n })) (sym at) (record {
  began = λ t n there. start_by-longer w.history (joined m.levels ∷ []) n.isolation (ended.began t n there);
  in_time = λ t n write there among late. elim (IsLate-push_cases w.history (joined m.levels) write.start write.key late) [
    | inl old ↦ ended.in_time t n write there among old
    | inr new ↦ (session-ended w s t n there).0
        (h.once t s write.key (n, (session-ended w s t n there).1, among-written (joined n.levels) write among) (m, at, new))
  ];
  once = ended.once;
  first = first;
  scans = ended.scans;
})
  where
    ended : Lawful (aborted w s)
    ended = Lawful-aborted w s h

    first : FirstCommitterWins (w.history ++ joined m.levels ∷ [])
    first m' n a b at_a at_b same lt = elim (slice_get-push_cases w.history (joined m.levels) m' at_a.0 at_a.1) [
      | inl old_a ↦ elim (slice_get-push_cases w.history (joined m.levels) n at_b.0 at_b.1) [
        | inl old_b ↦ h.first m' n a b (at_a.0, old_a, at_a.2) (at_b.0, old_b, at_b.2) same lt
        | inr new_b ↦ absurd (let in_list : m' < length w.history = slice_get_within w.history m' at_a.0 old_a in let last : n ≡ length w.history = new_b.0 in omega arith)
      ]
      | inr new_a ↦ elim (slice_get-push_cases w.history (joined m.levels) n at_b.0 at_b.1) [
        | inl old_b ↦ elim (cases_lt n a.start) [
          | inl early ↦ early
          | inr late ↦ absurd (h.in_time s m a at (subst (λ (t : Transaction). Contains t a) new_a.1 at_a.2)
              (n, at_b.0, late, old_b, subst (λ k. IsSome (written at_b.0 k)) (sym same) (among-written at_b.0 b at_b.2)))
        ]
        | inr new_b ↦ absurd (let last : m' ≡ length w.history = new_a.0 in let last' : n ≡ length w.history = new_b.0 in omega arith)
      ]
    ]

-- emptying the newest level leaves the writes of the others
pub fewer-empty_newest : (levels : List (List Write)) (write : Write) → Contains (joined (empty_newest levels)) write → Contains (joined levels) write
fewer-empty_newest [] write among = among
fewer-empty_newest (level ∷ older) write among = Contains-append_left (joined older) level write (subst (λ ws. Contains ws write) (append-nil (joined older)) among)

-- fewer indexes are too new
free-scans : (w : World) (s t index : ℕ) → w.too_new t index ≡ false → (free_to_scan w s).too_new t index ≡ false
free-scans w s t index may = elim (cases_eq t s) [
  | inl same ↦ subst (λ t. cond (nat_eq t s) false (w.too_new t index) ≡ false) (sym same) (at_same s false (w.too_new s index))
  | inr ne ↦ at_other t s false (w.too_new t index) ne ∙ may
]

Lawful-free : (w : World) (s : ℕ) → Lawful w → Lawful (free_to_scan w s)
Lawful-free w s h = record {
  began = h.began;
  in_time = h.in_time;
  once = h.once;
  first = h.first;
  scans = λ t index m at is. free-scans w s t index (h.scans t index m at is);
}

-- a session that begins holds nothing
Lawful-new : (w : World) (s : ℕ) (isolation : Isolation) → Lawful w → start_by isolation w.history ≤ length w.history
    → Lawful (free_to_scan (put w s (Some (new_session isolation))) s)
Lawful-new w s isolation h began =
    let free = Lawful-put (free_to_scan w s) s (new_session isolation) (Lawful-free w s h) began (record {
      in_time = λ write among. absurd (let lt = among.1 in omega arith);
      unheld = λ key o wrote. cc;
      scans = λ index is. at_same s false (w.too_new s index);
    }) in
    record { began = free.began; in_time = free.in_time; once = free.once; first = free.first; scans = free.scans }

pub Lawful-step : {w : World} {s : ℕ} {after : World} → Happens w s after → Lawful w → Lawful after
Lawful-step passes h = record { began = h.began; in_time = h.in_time; once = h.once; first = h.first; scans = h.scans }
Lawful-step {w} {s} (begins within idle) h = Lawful-new w s (by_snapshot (length w.history)) h (omega arith)
Lawful-step {w} {s} (begins_by_statement within idle) h = Lawful-new w s by_statement h (omega arith)
Lawful-step {w} {s} (inserts row m may absent) h = Lawful-write w s row.key (Some row) m h may
Lawful-step {w} {s} (updates row m may there) h = Lawful-write w s row.key (Some row) m h may
Lawful-step {w} {s} (deletes key m may there) h = Lawful-write w s key None m h may
Lawful-step {w} {s} (conflicts key m writer late) h = Lawful-change w s as_failed m h writer.ready.there refl (λ write among. among)
Lawful-step (waits key o m blocked free) h = record { began = h.began; in_time = h.in_time; once = h.once; first = h.first; scans = h.scans }
Lawful-step {w} {s} (deadlocks key o m blocked ring) h = Lawful-change w s as_failed m h blocked.writer.ready.there refl (λ write among. among)
Lawful-step {w} {s} (saves m writer room) h =
    Lawful-change w s with_savepoint m h writer.ready.there refl (λ write among. subst (λ ws. Contains ws write) (append-nil (joined m.levels)) among)
Lawful-step {w} {s} (rolls_back_to m is_open bare saved) h =
    let back = Lawful-change w s to_savepoint m h is_open refl (fewer-empty_newest m.levels) in
    record { began = back.began; in_time = back.in_time; once = back.once; first = back.first; scans = back.scans }
Lawful-step {w} {s} (releases m writer saved) h =
    Lawful-change w s without_savepoint m h writer.ready.there refl (λ write among. subst (λ ws. Contains ws write) (joined-join_newest m.levels) among)
Lawful-step {w} {s} (commits m ready) h = Lawful-commit w s m h ready.there
Lawful-step {w} {s} (aborts m is_open) h = Lawful-aborted w s h
Lawful-step {w} {s} (opens_index index low high m writer may order) h = Lawful-change w s _ m h writer.ready.there refl (λ write among. among)
Lawful-step {w} {s} (opens_heap m writer) h = Lawful-change w s _ m h writer.ready.there refl (λ write among. among)
Lawful-step {w} {s} (opens_keys low high m writer order) h = Lawful-change w s _ m h writer.ready.there refl (λ write among. among)
Lawful-step {w} {s} (takes n rows m c ready there part) h = Lawful-change w s _ m h ready.there refl (λ write among. among)
Lawful-step {w} {s} (takes_keys n keys m c ready there part) h = Lawful-change w s _ m h ready.there refl (λ write among. among)
Lawful-step {w} {s} (closes m ready there) h = Lawful-change w s without_cursor m h ready.there refl (λ write among. among)

-- an index that is made is too new for no session by statement
is_open_by_snapshot-not : (session : Option OpenSession) (m : OpenSession) → session ≡ Some m → m.isolation ≡ by_statement → is_open_by_snapshot session ≡ false
is_open_by_snapshot-not session m at is = ap is_open_by_snapshot at ∙ ap is_repeatable_read is

Lawful-made_index : (w : World) (index : ℕ) → Lawful w → Lawful (with_made_index w index)
Lawful-made_index w index h = record {
  began = h.began;
  in_time = h.in_time;
  once = h.once;
  first = h.first;
  scans = λ s i m at is. elim (cases_eq i index) [
    | inl same ↦ subst (λ i. cond (nat_eq i index) (is_open_by_snapshot (w.session s)) (w.too_new s i) ≡ false) (sym same)
        (at_same index (is_open_by_snapshot (w.session s)) (w.too_new s index) ∙ is_open_by_snapshot-not (w.session s) m at is)
    | inr ne ↦ at_other i index (is_open_by_snapshot (w.session s)) (w.too_new s i) ne ∙ h.scans s i m at is
  ];
}

-- a vacuum begins or ends
Lawful-vacuum : (w : World) (runs : Bool) → Lawful w → Lawful (with_vacuum runs w)
Lawful-vacuum w runs h = record { began = h.began; in_time = h.in_time; once = h.once; first = h.first; scans = h.scans }

-- every run keeps them
pub Lawful-run : {from after : World} → StepsReach from after → Lawful from → Lawful after
Lawful-run stays h = h
Lawful-run (goes_on before after s run step) h = Lawful-step step (Lawful-run run h)
Lawful-run (makes_index before index run absent none) h = Lawful-made_index before index (Lawful-run run h)
Lawful-run (begins_vacuum before run none) h = Lawful-vacuum before true (Lawful-run run h)
Lawful-run (ends_vacuum before run runs) h = Lawful-vacuum before false (Lawful-run run h)

-- no session's step changes which indexes there are
pub indexes-step : {w : World} {s : ℕ} {after : World} → Happens w s after → after.has_index ≡ w.has_index
indexes-step passes = refl
indexes-step {w} _ = refl

-- nor whether a vacuum runs
pub vacuum-step : {w : World} {s : ℕ} {after : World} → Happens w s after → after.has_vacuum ≡ w.has_vacuum
vacuum-step passes = refl
vacuum-step {w} _ = refl

-- and a making adds one
KeepsIndexes-made : (w : World) (index : ℕ) → KeepsIndexes w (with_made_index w index)
KeepsIndexes-made w index i has = elim (cases_eq i index) [
  | inl same ↦ subst (λ i. cond (nat_eq i index) true (w.has_index i) ≡ true) (sym same) (at_same index true (w.has_index index))
  | inr ne ↦ at_other i index true (w.has_index i) ne ∙ has
]

pub indexes-run : {from after : World} → StepsReach from after → KeepsIndexes from after
indexes-run stays index has = has
indexes-run (goes_on before after s run step) index has = ap (λ (there : ℕ → Bool). there index) (indexes-step step) ∙ indexes-run run index has
indexes-run (makes_index before made run absent none) index has = KeepsIndexes-made before made index (indexes-run run index has)
indexes-run (begins_vacuum before run none) index has = indexes-run run index has
indexes-run (ends_vacuum before run runs) index has = indexes-run run index has

-- a run goes on by the making of a column's index
pub makes_on : (from w : World) (c : ℕ) → StepsReach from w → MayIndex w c → StepsReach from (with_index_on w c)
makes_on from w c run may = by (w.has_index (suc c)) refl
  where
    by : (has : Bool) → w.has_index (suc c) ≡ has → StepsReach from (if has then w else with_made_index w (suc c))
    by true is = run
    by false is = makes_index w (suc c) run is (may.1 is)

-- each step leaves what has committed as it is
pub Grows-step : {w : World} {s : ℕ} {after : World} → Happens w s after → Grows w after
Grows-step {w} (commits m ready) = (joined m.levels ∷ [], ap (appended w.history) ready.there)
Grows-step {w} _ = ([], sym (append-nil w.history))

pub Grows-run : {from after : World} → StepsReach from after → Grows from after
Grows-run {from} stays = ([], sym (append-nil from.history))
Grows-run {from} (goes_on before after s run step) =
    let first = Grows-run run in let then_ = Grows-step step in
    (first.0 ++ then_.0, then_.1 ∙ (ap (λ ts. ts ++ then_.0) first.1 ∙ append_assoc from.history first.0 then_.0))
Grows-run (makes_index before index run absent none) = Grows-run run
Grows-run (begins_vacuum before run none) = Grows-run run
Grows-run (ends_vacuum before run runs) = Grows-run run

-- a step of another leaves the session as it is
pub same_session : {w : World} {o : ℕ} {after : World} (s : ℕ) → Happens w o after → s ≢ o → after.session s ≡ w.session s
same_session s passes ne = refl
same_session s (waits key p m blocked free) ne = refl
same_session {w} {o} s _ ne = at_other s o _ (w.session s) ne

-- so each row stays that it reads by the snapshot of its beginning
view-by_snapshot : (history more : List Transaction) (m : OpenSession) (key : ℕ) → IsBySnapshot m → start_now history m ≤ length history
    → view (history ++ more) m key ≡ view history m key
view-by_snapshot history more m key (start, is) began =
    ap (λ isolation. reading (history ++ more) (start_by isolation (history ++ more)) (joined m.levels) key) is
    ∙ (reading-append_history history more start (joined m.levels) key (subst (λ isolation. start_by isolation history ≤ length history) is began)
    ∙ sym (ap (λ isolation. reading history (start_by isolation history) (joined m.levels) key) is))

pub KeepsView-step : {w : World} {o : ℕ} {after : World} (s : ℕ) → Lawful w → Happens w o after → s ≢ o → KeepsView s w after
KeepsView-step {w} s h step ne = let grows = Grows-step step in (
  same_session s step ne,
  λ m key at how. elim how [
    | inl by ↦ ap (λ history. view history m key) grows.1 ∙ view-by_snapshot w.history grows.0 m key by (h.began s m at)
    | inr same ↦ ap (λ history. view history m key) same
  ],
)

-- no key is late at the end of the history
pub never_late : (w : World) → NeverLate w
never_late w s m key at is late =
    IsLate-now w.history key (subst (λ isolation. IsLate w.history (start_by isolation w.history) key) is late)
