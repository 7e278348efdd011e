-- An open session has an id exactly where it has written.
use Rattle.std.proofs.Common.{◌≡◌, ◌≢◌, ℕ, zero, suc, ◌<◌, Bool, true, false, List, [], ◌∷◌, ◌++◌, length, Option, Some, None, refl, sym, ap, ◌∙◌, subst, inl, inr, arith}
use Rattle.std.specs.Option.{option_map}
use Rattle.std.proofs.lemmas.Bool.{cases_eq, true≢false}
use Rattle.std.proofs.lemmas.Option.{same_Some, none-some}
use Rattle.snapshot.specs.Own.{Own, unassigned_levels, saved_with, saved_with_each}
use Rattle.commit_status.specs.Window.{Window}
use Rattle.write_ids.specs.Ids.{TakesIds, SameOwn}
use Rattle.history.specs.World.{World, OpenSession, SomeoneHasWritten}
use Rattle.history.specs.Moves.{put, change, as_failed, stepped}
use Rattle.history.proofs.HistoryLemmas.{at_same, at_other}
use Rattle.calls.specs.declared.step.Step.{Step}
use Rattle.calls.specs.declared.step.Step.TheVariants as step
use Rattle.calls.specs.declared.reply.Reply.{Reply}
use Rattle.calls.specs.declared.reply.Reply.TheVariants as reply
use Rattle.calls.specs.declared.reply.Refusal.{Refusal}
use Rattle.calls.specs.declared.reply.Refusal.TheVariants as refusal
use Rattle.calls.specs.Steps.{session_of}
use Rattle.refinement.specs.Allowed.{by_its_session, after_refused_write, next}
use Rattle.refinement.proofs.Runs.{MakesNoIndex}
use Rattle.sessions.specs.declared.session.Session.{Session}
use Rattle.session_steps.specs.State.{State, session_at, put_session, reader_of}
use Rattle.session_steps.proofs.StateLemmas.{failed_session}
use Rattle.session_steps.specs.Agrees.{Agrees, names_id, NameIds, WrittenAgrees}
use Rattle.session_steps.specs.Making.{SomeoneHasId}
use Rattle.session_steps.proofs.OwnIdsLemmas.{open-within, open-set_cases}
use Rattle.session_steps.proofs.Owns.{reader-is}

-- A session takes ids: each level has one then.

names-more : (ids : List ℕ) (x : ℕ) (xs : List ℕ) → names_id (ids ++ x ∷ xs) ≡ true
names-more [] x xs = refl
names-more (y ∷ ids) x xs = refl

-- it had one already
name-with : (n x : ℕ) (saved : List (List ℕ)) → NameIds true saved → NameIds true (saved_with n x saved)
name-with zero x saved name = name
name-with (suc n) x [] name = tt
name-with (suc n) x (before ∷ saved) name = (names-more before x [], name-with n x saved name.1)

name-with_each : (xs : List ℕ) (saved : List (List ℕ)) → NameIds true saved → NameIds true (saved_with_each xs saved)
name-with_each [] saved name = name
name-with_each (x ∷ xs) saved name = name-with_each xs (saved_with (length xs) x saved) (name-with (length xs) x saved name)

-- or none had, and each gets one
name-all : (n x : ℕ) (saved : List (List ℕ)) → n ≡ length saved → NameIds true (saved_with n x saved)
name-all zero x [] is = tt
name-all zero x (before ∷ saved) is = absurd (omega (arith, is))
name-all (suc n) x [] is = tt
name-all (suc n) x (before ∷ saved) is = (names-more before x [], name-all n x saved (omega (arith, is)))

none-named : (ids : List ℕ) → names_id ids ≡ false → ids ≡ []
none-named [] none = refl
none-named (x ∷ ids) none = absurd (let e : true ≡ false = none in cc)

all-lack : (saved : List (List ℕ)) → NameIds false saved → unassigned_levels [] saved ≡ suc (length saved)
all-lack [] name = refl
all-lack ([] ∷ saved) name = ap suc (all-lack saved name.1)
all-lack ((x ∷ before) ∷ saved) name = absurd (let e : true ≡ false = name.0 in cc)

given-none : (given : List ℕ) (saved : List (List ℕ)) → length given ≡ suc (length saved) → NameIds true (given ∷ saved_with_each given saved)
given-none [] saved count = absurd (omega (arith, count))
given-none (x ∷ xs) saved count = (refl, name-with_each xs (saved_with (length xs) x saved) (name-all (length xs) x saved (omega (arith, count))))

given-some : (given ids : List ℕ) (saved : List (List ℕ)) → NameIds true (ids ∷ saved) → NameIds true ((ids ++ given) ∷ saved_with_each given saved)
given-some given [] saved name = absurd (let e : false ≡ true = name.0 in cc)
given-some given (x ∷ ids) saved name = (refl, name-with_each given saved name.1)

given-name : (told : Bool) (given ids : List ℕ) (saved : List (List ℕ)) → length given ≡ unassigned_levels ids saved → NameIds told (ids ∷ saved) → NameIds true ((ids ++ given) ∷ saved_with_each given saved)
given-name true given ids saved count name = given-some given ids saved name
given-name false given ids saved count name =
    let none = none-named ids name.0 in
    subst (λ ids. NameIds true ((ids ++ given) ∷ saved_with_each given saved)) (sym none)
    (given-none given saved (count ∙ (ap (λ ids. unassigned_levels ids saved) none ∙ all-lack saved name.1)))

-- A session changes in the engine, and in the world.

becomes : (st : State) (w : World) (s : ℕ) (now : Option Session) (new : Option OpenSession) → s < length st.sessions → Agrees st w
    → ((e : Session) (m : OpenSession) → now ≡ Some e → new ≡ Some m → NameIds m.has_written (e.own.ids ∷ e.own.saved)) → WrittenAgrees (put_session st s now) (put w s new)
becomes st w s now new within agrees by o e m at there = elim (open-set_cases st.sessions s o now e within at) [
  | inl here ↦ by e m here.1 (sym (at_same s new (w.session s)) ∙ subst (λ o. (put w s new).session o ≡ Some m) here.0 there)
  | inr other ↦ agrees.written o e m other.1 (sym (at_other o s new (w.session o) other.0) ∙ there)
]

pub written-begins : (st : State) (w : World) (s : ℕ) (e : Session) (m : OpenSession) → s < length st.sessions → Agrees st w → NameIds m.has_written (e.own.ids ∷ e.own.saved)
    → WrittenAgrees (put_session st s (Some e)) (put w s (Some m))
written-begins st w s e m within agrees name = becomes st w s (Some e) (Some m) within agrees (λ f n is same.
    subst (λ (n : OpenSession). NameIds n.has_written (f.own.ids ∷ f.own.saved)) (same_Some m n same) (subst (λ (f : Session). NameIds m.has_written (f.own.ids ∷ f.own.saved)) (same_Some e f is) name))

pub written-ends : (st : State) (w : World) (s : ℕ) (e : Session) → session_at st s ≡ Some e → Agrees st w → WrittenAgrees (put_session st s None) (put w s None)
written-ends st w s e at agrees = becomes st w s None None (open-within st.sessions s e at) agrees (λ f n is. absurd (none-some f is))

pub written-put : (st : State) (w : World) (s : ℕ) (e now : Session) (f : OpenSession → OpenSession) → session_at st s ≡ Some e → Agrees st w
    → ((m : OpenSession) → w.session s ≡ Some m → NameIds (f m).has_written (now.own.ids ∷ now.own.saved)) → WrittenAgrees (put_session st s (Some now)) (change w s f)
written-put st w s e now f at agrees by =
    let m = agrees.found.opened s (reader_of e) (reader-is st s e at) in
    subst (λ o. WrittenAgrees (put_session st s (Some now)) (put w s o)) (sym (ap (option_map f) m.1))
    (written-begins st w s now (f m.0) (open-within st.sessions s e at) agrees (by m.0 m.1))

-- it writes
pub written-by : (st : State) (w : World) (v : Window) (s : ℕ) (e : Session) (own : Own) (x : ℕ) → session_at st s ≡ Some e → TakesIds st.heap.statuses v e.own own x → Agrees st w
    → (m : OpenSession) → w.session s ≡ Some m → NameIds true (own.ids ∷ own.saved)
written-by st w v s e own x at takes agrees m there =
    rw (takes.ids, takes.saved) (given-name m.has_written takes.given e.own.ids e.own.saved takes.count (agrees.written s e m at there))

-- it fails
pub written-fails : (st : State) (w : World) (s : ℕ) (e : Session) → session_at st s ≡ Some e → Agrees st w
    → WrittenAgrees (put_session st s (option_map failed_session (session_at st s))) (change w s as_failed)
written-fails st w s e at agrees =
    subst (λ o. WrittenAgrees (put_session st s (option_map failed_session o)) (change w s as_failed)) (sym at)
    (written-put st w s e (failed_session e) as_failed at agrees (λ m there. agrees.written s e m at there))

-- it has the same ids, and in the world it is as it was
pub written-kept : (st : State) (w : World) (s : ℕ) (e now : Session) → session_at st s ≡ Some e → Agrees st w → SameOwn e.own now.own → WrittenAgrees (put_session st s (Some now)) w
written-kept st w s e now at agrees same o f m bt there = elim (open-set_cases st.sessions s o (Some now) f (open-within st.sessions s e at) bt) [
  | inl here ↦ subst (λ (f : Session). NameIds m.has_written (f.own.ids ∷ f.own.saved)) (same_Some now f here.1)
      (rw (same.ids, same.saved) (agrees.written s e m at (subst (λ o. w.session o ≡ Some m) here.0 there)))
  | inr other ↦ agrees.written o f m other.1 there
]

-- The engine stays as it is.

-- the step reads, or is refused, and it is no making
abbrev pub ReadsOrFails : Step → Reply → Type 0
ReadsOrFails (step.CreateIndex c) reply = ⊥
ReadsOrFails step (reply.Refused r) = Unit {0}
ReadsOrFails step reply.End = Unit {0}
ReadsOrFails (step.Get s k) (reply.Found row) = Unit {0}
ReadsOrFails (step.TakePage s p) (reply.Rows rows) = Unit {0}
ReadsOrFails step reply = ⊥

pub makes-none : (step : Step) (reply : Reply) → ReadsOrFails step reply → MakesNoIndex step
makes-none (step.CreateIndex c) reply is = is
makes-none _ reply is = tt

-- who is open before and after it has written as before
abbrev KeepsWritten : World → World → Type 0
KeepsWritten w after = (s : ℕ) (m n : OpenSession) → w.session s ≡ Some m → after.session s ≡ Some n → n.has_written ≡ m.has_written

kept-passed : (w : World) (s : Option ℕ) → KeepsWritten w (by_its_session w (stepped w) s)
kept-passed w None t m n at there = ap (λ (m : OpenSession). m.has_written) (same_Some n m (sym there ∙ at))
kept-passed w (Some s) t m n at there = ap (λ (m : OpenSession). m.has_written) (same_Some n m (sym there ∙ at))

kept-failed : (w : World) (s : ℕ) → KeepsWritten w (change w s as_failed)
kept-failed w s t m n at there = elim (cases_eq t s) [
  | inl same ↦
      let new : option_map as_failed (w.session t) ≡ Some n = ap (λ t. option_map as_failed (w.session t)) same ∙ (sym (at_same s (option_map as_failed (w.session s)) (w.session s)) ∙ subst (λ t. (change w s as_failed).session t ≡ Some n) same there) in
      sym (ap (λ (m : OpenSession). m.has_written) (same_Some (as_failed m) n (sym (ap (option_map as_failed) at) ∙ new)))
  | inr ne ↦ ap (λ (m : OpenSession). m.has_written) (same_Some n m (sym (sym (at_other t s (option_map as_failed (w.session s)) (w.session t) ne) ∙ there) ∙ at))
]

kept-refused : (w : World) (s : ℕ) (r : Refusal) → KeepsWritten w (after_refused_write w s r)
kept-refused w s refusal.Conflict = kept-failed w s
kept-refused w s _ = kept-passed w (Some s)

kept-written : (w : World) (step : Step) (reply : Reply) → ReadsOrFails step reply → KeepsWritten w (next w step reply)
kept-written w (step.Insert s row) (reply.Refused r) is = kept-refused w s r
kept-written w (step.Update s row) (reply.Refused r) is = kept-refused w s r
kept-written w (step.Delete s k) (reply.Refused r) is = kept-refused w s r
kept-written w step (reply.Refused r) is = kept-passed w (session_of step)
kept-written w step reply.End is = kept-passed w (session_of step)
kept-written w (step.Get s k) (reply.Found row) is = kept-passed w (Some s)
kept-written w (step.TakePage s p) (reply.Rows rows) is = kept-passed w (Some s)
kept-written w _ _ is = absurd is

pub written-stays : (st : State) (w : World) (step : Step) (reply : Reply) → ReadsOrFails step reply → Agrees st w → WrittenAgrees st (next w step reply)
written-stays st w step reply is agrees s e n at there =
    let m = agrees.found.opened s (reader_of e) (reader-is st s e at) in
    subst (λ told. NameIds told (e.own.ids ∷ e.own.saved)) (sym (kept-written w step reply is s m.0 n m.1 there)) (agrees.written s e m.0 at m.1)

-- Who has an id.

some-named : (ids : List ℕ) → ids ≢ [] → names_id ids ≡ true
some-named [] some = absurd (some refl)
some-named (x ∷ ids) some = refl

pub someone-written : (st : State) (w : World) → SomeoneHasId st → Agrees st w → SomeoneHasWritten w
someone-written st w someone agrees =
    let s = someone.0 in
    let e = someone.1 in
    let m = agrees.found.opened s (reader_of e) (reader-is st s e someone.2) in
    (s, m.0, m.1, sym (agrees.written s e m.0 someone.2 m.1).0 ∙ some-named e.own.ids someone.3)

pub nobody-written : (st : State) (w : World) → ¬ SomeoneHasId st → Agrees st w → ¬ SomeoneHasWritten w
nobody-written st w none agrees (s, m, there, wrote) = of (session_at st s) refl
  where
    of : (o : Option Session) → session_at st s ≡ o → ⊥
    of None at = none-some m (sym (agrees.found.idle s (ap (option_map reader_of) at)) ∙ there)
    of (Some e) at = none (s, e, at, λ no. true≢false (sym wrote ∙ sym (agrees.written s e m at there).0 ∙ ap names_id no))
