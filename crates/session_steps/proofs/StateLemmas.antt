-- The state of an engine as its own changes leave it.
use Rattle.std.proofs.Common.{◌≡◌, ◌≢◌, ℕ, ◌<◌, List, [], ◌∷◌, length, set, replicate, zero, suc, Option, Some, None, true, refl, sym, ap, ◌∙◌, arith}
use Rattle.std.proofs.Math.ListN.{length-set}
use Rattle.std.specs.Option.{option_map, option_flatten}
use Rattle.std.proofs.lemmas.Option.{none-some, slice_get_past}
use Rattle.commit_status.specs.declared.status.Status.{Status}
use Rattle.commit_status.specs.declared.status.Status.TheVariants.{InProgress}
use Rattle.commit_status.specs.Window.{Window, place}
use Rattle.commit_status.proofs.Places.{place-lt, some-from_is}
use Rattle.commit_status.specs.Changes.{Finishes}
use Rattle.calls.specs.declared.reply.Refusal.{Refusal}
use Rattle.calls.specs.declared.reply.Refusal.TheVariants as refusal
use Rattle.calls.specs.Bars.{BarsOpen}
use Rattle.refinement.proofs.Steps.{OnlyIs}
use Rattle.snapshot.specs.Own.{Own}
use Rattle.sessions.specs.declared.session.Session.{Session}
use Rattle.session_steps.specs.State.{State, session_at, put_session, reader_of, with_failed, engine_sessions, seen}
use Rattle.session_steps.specs.Keeps.{EngineKeeps}
use Rattle.sessions.specs.Places.{open_at}
use Rattle.session_steps.proofs.OwnIdsLemmas.{open-set_same, open-set_other, keep-open, keep-close, keep-idle, keep-same}
use Rattle.sessions.proofs.PlaceLemmas.{none-open}

abbrev pub failed_session : Session → Session
failed_session e = record e { failed = true }

pub keeps-idle : (xs : List (Option Session)) (w : Window) → w.entries ≡ [] → xs ≡ replicate 64 None → length xs ≡ 64 → EngineKeeps xs w
keeps-idle xs w no_ids is count = record {
  count = count;
  own = record {
    active = λ s e x at own. absurd (none-some e (sym (closed s) ∙ at));
    distinct = λ s e at. absurd (none-some e (sym (closed s) ∙ at));
    apart = λ s o e f x at bt own own'. absurd (none-some e (sym (closed s) ∙ at));
    owned = λ x active. absurd (let at = some-from_is (place w x) active.is_given in omega (arith, place-lt w x at.0 at.1, ap length no_ids));
  };
}
  where
    closed : (s : ℕ) → open_at xs s ≡ None
    closed s = ap (λ xs. open_at xs s) is ∙ none-open 64 s

pub keeps-open : (xs : List (Option Session)) (w : Window) (s : ℕ) (e : Session) → s < length xs → open_at xs s ≡ None → e.own.ids ≡ [] → EngineKeeps xs w → EngineKeeps (set xs s (Some e)) w
keeps-open xs w s e within idle none h = record { count = length-set xs s (Some e) ∙ h.count; own = keep-open xs w s e within idle none h.own }

pub keeps-close : (xs : List (Option Session)) (w v : Window) (s : ℕ) (e : Session) (status : Status) → open_at xs s ≡ Some e → status ≢ InProgress
    → Finishes w v e.own.ids status → EngineKeeps xs w → EngineKeeps (set xs s None) v
keeps-close xs w v s e status at final finishes h = record { count = length-set xs s None ∙ h.count; own = keep-close xs w v s e status at final finishes h.own }

pub keeps-shut : (xs : List (Option Session)) (w : Window) (s : ℕ) → s < length xs → open_at xs s ≡ None → EngineKeeps xs w → EngineKeeps (set xs s None) w
keeps-shut xs w s within idle h = record { count = length-set xs s None ∙ h.count; own = keep-idle xs w s within idle h.own }

-- one becomes another with the same ids
pub keeps-ids : (xs : List (Option Session)) (w : Window) (s : ℕ) (e e' : Session) → open_at xs s ≡ Some e → e'.own.ids ≡ e.own.ids → EngineKeeps xs w → EngineKeeps (set xs s (Some e')) w
keeps-ids xs w s e e' at same h = record { count = length-set xs s (Some e') ∙ h.count; own = keep-same xs w s e e' at same h.own }

-- no session is open that is barred for not being so
pub barred-idle : (st : State) (s : ℕ) (r : Refusal) → length st.sessions ≡ 64 → BarsOpen (engine_sessions st) s r → session_at st s ≡ None
barred-idle st s refusal.NoSuchSession count over = ap option_flatten (slice_get_past st.sessions s (omega (arith, over, count)))
barred-idle st s refusal.NotOpen count idle = idle.1
barred-idle st s _ count is = absurd is

-- and its place stays as it is
still-idle : (xs : List (Option Session)) (s : ℕ) → open_at xs s ≡ None → set xs s None ≡ xs
still-idle [] s idle = refl
still-idle (None ∷ xs) zero idle = refl
still-idle (Some e ∷ xs) zero idle = absurd (none-some e (sym idle))
still-idle (x ∷ xs) (suc s) idle = ap (λ ys. x ∷ ys) (still-idle xs s idle)

pub none-failed : (st : State) (s : ℕ) → session_at st s ≡ None → with_failed st s ≡ st
none-failed st s idle =
    ap (λ o. put_session st s (option_map failed_session o)) idle ∙ ap (λ sessions. record st { sessions = sessions }) (still-idle st.sessions s idle)

-- of the sessions that readers see, one changes
pub only-set : (st : State) (s : ℕ) (now : Option Session) → s < length st.sessions → OnlyIs (seen st).session (seen (put_session st s now)).session s (option_map reader_of now)
only-set st s now within = record {
  others = λ o ne. ap (option_map reader_of) (open-set_other st.sessions s o now ne);
  itself = ap (option_map reader_of) (open-set_same st.sessions s now within);
}

-- the session with other ids of its own
abbrev pub with_own : Session → Own → Session
with_own e own = record e { own = own }
