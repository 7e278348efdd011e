-- A session writes a row in place of one that it sees: it deletes the one and inserts the other, and the model is told of one write.
use Rattle.std.proofs.Common.{◌≡◌, ◌≢◌, ℕ, List, [], ◌∷◌, ◌++◌, Option, Some, None, true, refl, sym, ap, ◌∙◌, subst, ◌⊎◌, inl, inr}
use Rattle.std.specs.Prelude.{IsSome}
use Rattle.std.specs.Option.{unwrap_or}
use Rattle.std.proofs.lemmas.Bool.{cases_eq}
use Rattle.std.proofs.lemmas.Option.{same_Some, none-some}
use Rattle.xid_circle.specs.declared.Tid.{Tid}
use Rattle.xid_circle.proofs.Tids.{cases-tid}
use Rattle.tuple_header.specs.Version.{Version}
use Rattle.commit_status.specs.declared.status.Status.{Status}
use Rattle.history.specs.History.{Write, Transaction, committed, written, IsLate}
use Rattle.history.specs.World.{World, OpenSession, joined, own_write, view, Holds, start_now}
use Rattle.history.specs.Moves.{put, add_write, with_write}
use Rattle.history.proofs.HistoryLemmas.{at_same, at_other, joined-add_write}
use Rattle.refinement.specs.Heap.{SeenSession, Heap, StatementSees, CursorSees}
use Rattle.refinement.specs.Visible.{ReaderSees, At}
use Rattle.refinement.specs.Changes.{AddsVersion, Alters}
use Rattle.refinement.specs.Agrees.{ReaderAgrees, LevelsAgree, Traced, LevelTraces, SessionAgrees, HeapAgrees}
use Rattle.refinement.proofs.Readers.{IsNew, IsDeleted, ReaderAgrees-same, written-push_same, written-push_other}
use Rattle.refinement.proofs.Isolations.{CursorReads-to}
use Rattle.refinement.proofs.LevelTraces.{Traced-same}
use Rattle.refinement.proofs.Itself.{IsCurrent}
use Rattle.refinement.proofs.Steps.{Agrees-insert}
use Rattle.refinement.proofs.Deleting.{Agrees-delete}

-- a write hides the one of its key before it

hides : (writes : List Write) (old new : Write) → new.key ≡ old.key → (k : ℕ) → written (writes ++ new ∷ []) k ≡ written ((writes ++ old ∷ []) ++ new ∷ []) k
hides writes old new same k = elim (cases_eq k new.key) [
  | inl is ↦ subst (λ k. written (writes ++ new ∷ []) k ≡ written ((writes ++ old ∷ []) ++ new ∷ []) k) (sym is) (written-push_same writes new ∙ sym (written-push_same (writes ++ old ∷ []) new))
  | inr ne ↦ written-push_other writes new k ne ∙ (sym (written-push_other writes old k (λ e. ne (e ∙ sym same))) ∙ sym (written-push_other (writes ++ old ∷ []) new k ne))
]

alike : (old new : Write) (levels : List (List Write)) → new.key ≡ old.key → (k : ℕ) → written (joined (add_write new levels)) k ≡ written (joined (add_write new (add_write old levels))) k
alike old new levels same k = ap (λ ws. written ws k) (joined-add_write new levels)
    ∙ (hides (joined levels) old new same k ∙ (ap (λ ws. written (ws ++ new ∷ []) k) (sym (joined-add_write old levels)) ∙ ap (λ ws. written ws k) (sym (joined-add_write new (add_write old levels)))))

reader_forget : {status : ℕ → Option Status} {store : Tid → Option Version} {history : List Transaction} {sees : ℕ → Type 0} {start : ℕ} (own : List ℕ) (writes writes' : List Write)
    → ((k : ℕ) → written writes' k ≡ written writes k) → ReaderAgrees status store history sees start own writes → ReaderAgrees status store history sees start own writes'
reader_forget own writes writes' same h = ReaderAgrees-same (λ p x v at touch r. r) (λ p x v at touch r. r) (λ x mine. mine) same (λ k. refl) h

levels_forget : (status : ℕ → Option Status) (store : Tid → Option Version) (history : List Transaction) (sees : ℕ → Type 0) (start : ℕ) (old new : Write) (own : List ℕ) (saved : List (List ℕ)) (levels : List (List Write)) → new.key ≡ old.key
    → LevelsAgree status store history sees start own saved (add_write new (add_write old levels)) → LevelsAgree status store history sees start own saved (add_write new levels)
levels_forget _ _ _ _ _ old new own [] [] same h = reader_forget own (joined (add_write new (add_write old []))) (joined (add_write new [])) (alike old new [] same) h
levels_forget _ _ _ _ _ old new own [] (ws ∷ []) same h = reader_forget own (joined (add_write new (add_write old (ws ∷ [])))) (joined (add_write new (ws ∷ []))) (alike old new (ws ∷ []) same) h
levels_forget _ _ _ _ _ old new own [] (ws ∷ (vs ∷ levels)) same h = absurd h
levels_forget _ _ _ _ _ old new own (before ∷ saved) [] same h = (reader_forget own (joined (add_write new (add_write old []))) (joined (add_write new [])) (alike old new [] same) h.0, h.1, h.2)
levels_forget _ _ _ _ _ old new own (before ∷ saved) (ws ∷ levels) same h =
    (reader_forget own (joined (add_write new (add_write old (ws ∷ levels)))) (joined (add_write new (ws ∷ levels))) (alike old new (ws ∷ levels) same) h.0, h.1, h.2)

level_forget : {store : Tid → Option Version} {P : ℕ → Type 0} (old new : Write) (writes : List Write) → new.key ≡ old.key → Traced store P ((writes ++ old ∷ []) ++ new ∷ []) → Traced store P (writes ++ new ∷ [])
level_forget old new writes same h = Traced-same (λ p x v at touch mine. mine) (λ p x v at touch mine. mine) (hides writes old new same) h

traces_forget : (store : Tid → Option Version) (old new : Write) (own : List ℕ) (saved : List (List ℕ)) (levels : List (List Write)) → new.key ≡ old.key
    → LevelTraces store own saved (add_write new (add_write old levels)) → LevelTraces store own saved (add_write new levels)
traces_forget _ old new own [] [] same h = level_forget old new [] same h
traces_forget _ old new own [] (ws ∷ []) same h = level_forget old new ws same h
traces_forget _ old new own [] (ws ∷ (vs ∷ levels)) same h = absurd h
traces_forget _ old new own (before ∷ saved) [] same h = (level_forget old new [] same h.0, h.1)
traces_forget _ old new own (before ∷ saved) (ws ∷ levels) same h = (level_forget old new ws same h.0, h.1)

-- a session with one write more
abbrev adding : Write → OpenSession → OpenSession
adding write m = record m { levels = add_write write m.levels; has_written = true }

SessionAgrees-forget : {status : ℕ → Option Status} {store : Tid → Option Version} {history : List Transaction} {sees cursor_sees : ℕ → Type 0} {start : ℕ} {e : SeenSession} (old new : Write) (m : OpenSession) → new.key ≡ old.key
    → SessionAgrees status store history sees start cursor_sees e (adding new (adding old m)) → SessionAgrees status store history sees start cursor_sees e (adding new m)
SessionAgrees-forget {status} {store} {history} {sees} {cursor_sees} {start} {e} old new m same h = record {
  same_failed = h.same_failed;
  isolation = h.isolation;
  kept = h.kept;
  cursor = h.cursor;
  cursor_reads = λ some. CursorReads-to (λ start r. reader_forget e.own (joined (add_write new (add_write old m.levels))) (joined (add_write new m.levels)) (alike old new m.levels same) r) (h.cursor_reads some);
  levels = levels_forget status store history sees start old new e.own e.saved m.levels same h.levels;
  level_traces = traces_forget store old new e.own e.saved m.levels same h.level_traces;
  traces = h.traces;
  began = h.began;
  in_time = λ k wrote. h.in_time k (subst (λ o. IsSome o) (alike old new m.levels same k) wrote);
  active_unseen = h.active_unseen;
  own_active = h.own_active;
}

-- the engine cannot tell
Agrees-forget : (h : Heap) (w w' : World) (s : ℕ) (old new : Write) (m : OpenSession) → new.key ≡ old.key → w'.history ≡ w.history
    → w.session s ≡ Some (adding new (adding old m)) → w'.session s ≡ Some (adding new m) → ((o : ℕ) → o ≢ s → w'.session o ≡ w.session o)
    → HeapAgrees h w → HeapAgrees h w'
Agrees-forget h w w' s old new m same history there now others agrees = record {
  opened = λ o e at. let before = agrees.opened o e at in elim (cases_eq o s) [
    | inl is ↦ (let model : before.0 ≡ adding new (adding old m) = same_Some before.0 (adding new (adding old m)) (sym before.1 ∙ (ap w.session is ∙ there)) in (
      adding new m,
      ap w'.session is ∙ now,
      subst (λ history. SessionAgrees h.status h.version history (StatementSees h e.isolation) (start_now history (adding new m)) (CursorSees h e.isolation) e (adding new m)) (sym history)
          (SessionAgrees-forget old new m same (subst (λ (n : OpenSession). SessionAgrees h.status h.version w.history (StatementSees h e.isolation) (start_now w.history n) (CursorSees h e.isolation) e n) model before.2)),
    ))
    | inr ne ↦ (before.0, others o ne ∙ before.1, subst (λ history. SessionAgrees h.status h.version history (StatementSees h e.isolation) (start_now history before.0) (CursorSees h e.isolation) e before.0) (sym history) before.2)
  ];
  idle = λ o at. elim (cases_eq o s) [
    | inl is ↦ absurd (none-some (adding new (adding old m)) (sym (agrees.idle o at) ∙ (ap w.session is ∙ there)))
    | inr ne ↦ others o ne ∙ agrees.idle o at
  ];
  current = rw history agrees.current;
  made = agrees.made;
  given = agrees.given;
  owned = agrees.owned;
  apart = agrees.apart;
  alone = λ a b k p q. agrees.alone a b k (back a k p) (back b k q);
}
  where
    back : (o k : ℕ) → Holds w' o k → Holds w o k
    back o k p = elim (cases_eq o s) [
      | inl is ↦ (let model : p.0 ≡ adding new m = same_Some p.0 (adding new m) (sym p.1 ∙ (ap w'.session is ∙ now)) in
          (adding new (adding old m), ap w.session is ∙ there, subst (λ o. IsSome o) (alike old new m.levels same k) (subst (λ n. IsSome (own_write n k)) model p.2)))
      | inr ne ↦ (p.0, sym (others o ne) ∙ p.1, p.2)
    ]

-- the old version is deleted, and the new one added
pub Agrees-replace : (h : Heap) (w : World) (s : ℕ) (e : SeenSession) (m : OpenSession) (x : ℕ) (place q : Tid) (old old' new : Version) (between store' : Tid → Option Version)
    → Alters h.version between place old old' → IsDeleted x old old' → AddsVersion between store' q new → IsNew x new → new.row.key ≡ old.row.key
    → h.session s ≡ Some e → IsCurrent e x → w.session s ≡ Some m → m.cursor ≡ None
    → ReaderSees h.status (StatementSees h e.isolation) e.own old → ¬ IsLate w.history (start_now w.history m) old.row.key → ((o : ℕ) → o ≢ s → ¬ Holds w o old.row.key)
    → SessionAgrees h.status h.version w.history (StatementSees h e.isolation) (start_now w.history m) (CursorSees h e.isolation) e m
    → HeapAgrees h w → HeapAgrees (record h { version = store' }) (put w s (Some (with_write w.history new.row.key (Some new.row) m)))
Agrees-replace h w s e m x place q old old' new between store' alters deleted adds is_new key at current there bare seen in_time unheld mine agrees =
    Agrees-forget (record h { version = store' }) w₂ (put w s (Some (with_write w.history new.row.key (Some new.row) m))) s (record { start = start_now w.history m; key = old.row.key; row = None }) (record { start = start_now w.history m; key = new.row.key; row = Some new.row }) m key
    refl (at_same s (Some (with_write w.history new.row.key (Some new.row) m₁)) (w₁.session s)) (at_same s (Some (with_write w.history new.row.key (Some new.row) m)) (w.session s))
    (λ o ne. at_other o s (Some (with_write w.history new.row.key (Some new.row) m)) (w.session o) ne ∙ (sym (at_other o s (Some m₁) (w.session o) ne) ∙ sym (at_other o s (Some (with_write w.history new.row.key (Some new.row) m₁)) (w₁.session o) ne)))
    inserted
  where
    m₁ : OpenSession
    m₁ = with_write w.history old.row.key None m

    w₁ : World
    w₁ = put w s (Some m₁)

    w₂ : World
    w₂ = put w₁ s (Some (with_write w.history new.row.key (Some new.row) m₁))

    gone : HeapAgrees (record h { version = between }) w₁
    gone = Agrees-delete h w s e m x place old old' between alters deleted at current there bare seen in_time unheld mine agrees

    there₁ : w₁.session s ≡ Some m₁
    there₁ = at_same s (Some m₁) (w.session s)

    mine₁ : SessionAgrees h.status between w.history (StatementSees h e.isolation) (start_now w.history m₁) (CursorSees h e.isolation) e m₁
    mine₁ = let open_ = gone.opened s e at in subst (λ (n : OpenSession). SessionAgrees h.status between w.history (StatementSees h e.isolation) (start_now w.history n) (CursorSees h e.isolation) e n) (same_Some open_.0 m₁ (sym open_.1 ∙ there₁)) open_.2

    deleted_now : own_write m₁ old.row.key ≡ Some None
    deleted_now = ap (λ ws. written ws old.row.key) (joined-add_write (record { start = start_now w.history m; key = old.row.key; row = None }) m.levels) ∙ written-push_same (joined m.levels) (record { start = start_now w.history m; key = old.row.key; row = None })

    none : view w.history m₁ new.row.key ≡ None
    none = subst (λ k. view w.history m₁ k ≡ None) (sym key) (ap (λ o. unwrap_or o (committed w.history (start_now w.history m) old.row.key)) deleted_now)

    unheld₁ : (o : ℕ) → o ≢ s → ¬ Holds w₁ o new.row.key
    unheld₁ o ne held = unheld o ne (subst (λ k. Holds w o k) key (held.0, sym (at_other o s (Some m₁) (w.session o) ne) ∙ held.1, held.2))

    inserted : HeapAgrees (record h { version = store' }) w₂
    inserted = Agrees-insert (record h { version = between }) w₁ s e m₁ x q new store' adds is_new at current there₁ bare none (subst (λ k. ¬ IsLate w.history (start_now w.history m) k) (sym key) in_time) unheld₁ mine₁ gone

-- of two values, the one for the case that is so

abbrev chosen : {A P Q : Type 0} → P ⊎ Q → A → A → A
chosen (inl p) a b = a
chosen (inr q) a b = b

chosen-left : {A P Q : Type 0} (d : P ⊎ Q) (a b : A) → ¬ Q → chosen d a b ≡ a
chosen-left (inl p) a b left = refl
chosen-left (inr q) a b left = absurd (left q)

chosen-right : {A P Q : Type 0} (d : P ⊎ Q) (a b : A) → ¬ P → chosen d a b ≡ b
chosen-right (inl p) a b right = absurd (right p)
chosen-right (inr q) a b right = refl

-- the new version is added, and then the old one deleted
pub Agrees-update : (h : Heap) (w : World) (s : ℕ) (e : SeenSession) (m : OpenSession) (x : ℕ) (place q : Tid) (old old' new : Version) (added altered : Tid → Option Version)
    → At h.version place old → AddsVersion h.version added q new → IsNew x new → new.row.key ≡ old.row.key → Alters added altered place old old' → IsDeleted x old old'
    → h.session s ≡ Some e → IsCurrent e x → w.session s ≡ Some m → m.cursor ≡ None
    → ReaderSees h.status (StatementSees h e.isolation) e.own old → ¬ IsLate w.history (start_now w.history m) old.row.key → ((o : ℕ) → o ≢ s → ¬ Holds w o old.row.key)
    → SessionAgrees h.status h.version w.history (StatementSees h e.isolation) (start_now w.history m) (CursorSees h e.isolation) e m
    → HeapAgrees h w → HeapAgrees (record h { version = altered }) (put w s (Some (with_write w.history new.row.key (Some new.row) m)))
Agrees-update h w s e m x place q old old' new added altered stood adds is_new key alters deleted =
    Agrees-replace h w s e m x place q old old' new between altered alters' deleted adds' is_new key
  where
    -- without the new version
    between : Tid → Option Version
    between t = chosen (cases-tid t q) None (altered t)

    elsewhere : place ≢ q
    elsewhere same = none-some old (sym adds.unused ∙ (ap h.version (sym same) ∙ stood))

    alters' : Alters h.version between place old old'
    alters' = record {
      before = stood;
      here = chosen-right (cases-tid place q) None (altered place) elsewhere ∙ alters.here;
      others = λ t ne. elim (cases-tid t q) [
        | inl same ↦ chosen-left (cases-tid t q) None (altered t) (λ other. other same) ∙ sym (ap h.version same ∙ adds.unused)
        | inr other ↦ chosen-right (cases-tid t q) None (altered t) other ∙ (alters.others t ne ∙ adds.others t other)
      ];
    }

    adds' : AddsVersion between altered q new
    adds' = record {
      here = alters.others q (λ same. elsewhere (sym same)) ∙ adds.here;
      unused = chosen-left (cases-tid q q) None (altered q) (λ other. other refl);
      others = λ t other. sym (chosen-right (cases-tid t q) None (altered t) other);
    }
