-- The sessions that are marked, where an index is made.
use Rattle.std.proofs.Common.{◌≡◌, ◌≢◌, ℕ, suc, ◌≤◌, List, [], ◌∷◌, ◌++◌, ◌+◌, length, Option, Some, None, refl, sym, ap, ◌∙◌, subst, arith}
use Rattle.std.specs.Prelude.{Contains, MatchOption}
use Rattle.std.specs.Option.{option_map}
use Rattle.std.proofs.lemmas.Option.{none-some}
use Rattle.commit_status.specs.Window.{Window}
use Rattle.snapshot.specs.Own.{AreDistinct}
use Rattle.sessions.specs.declared.session.Session.{Session}
use Rattle.root_index.specs.View.{IndexView}
use Rattle.session_steps.specs.State.{State, engine_index, reader_of}
use Rattle.sessions.specs.Session.{holds_back, held_back}
use Rattle.sessions.specs.Places.{HoldsOpen, open_at}
use Rattle.session_steps.specs.Keeps.{EngineKeeps}
use Rattle.session_steps.specs.Making.{LacksIndexOn, SomeoneHasId}
use Rattle.sessions.specs.Marks.{MarksSession, MarksPlace, MarksAll}

-- The sessions are those that were, with their marks.

pub marked-at : (number : ℕ) (xs ys : List (Option Session)) → MarksAll number xs ys → (s : ℕ) (now : Session) → open_at ys s ≡ Some now → (e : Session) × (open_at xs s ≡ Some e) × MarksSession number e now
marked-at number xs ys marks s now at = of (open_at xs s) refl (subst (λ o. MarksPlace number (open_at xs s) o) at (marks.each s))
  where
    of : (o : Option Session) → open_at xs s ≡ o → MarksPlace number o (Some now) → (e : Session) × (open_at xs s ≡ Some e) × MarksSession number e now
    of None is m = absurd (none-some now (sym m))
    of (Some e) is m = (e, is, m)

pub place-reads : (number : ℕ) (before after : Option Session) → MarksPlace number before after → option_map reader_of after ≡ option_map reader_of before
place-reads number None after m = ap (option_map reader_of) m
place-reads number (Some e) None m = absurd m
place-reads number (Some e) (Some now) m = ap (λ f. Some (reader_of f)) m.is

place-back : (number : ℕ) (before after : Option Session) (xs ys : List (Option Session)) → MarksPlace number before after → held_back ys ≡ held_back xs → held_back (after ∷ ys) ≡ held_back (before ∷ xs)
place-back number None after xs ys m same = ap (λ o. held_back (o ∷ ys)) m ∙ same
place-back number (Some e) None xs ys m same = absurd m
place-back number (Some e) (Some now) xs ys m same = ap (λ f. holds_back f ++ held_back ys) m.is ∙ ap (λ back. holds_back e ++ back) same

-- they hold back what they held back
pub held-marked : (number : ℕ) (xs ys : List (Option Session)) → length ys ≡ length xs → ((s : ℕ) → MarksPlace number (open_at xs s) (open_at ys s)) → held_back ys ≡ held_back xs
held-marked number [] [] count each = refl
held-marked number [] (y ∷ ys) count each = absurd (omega arith)
held-marked number (x ∷ xs) [] count each = absurd (omega arith)
held-marked number (x ∷ xs) (y ∷ ys) count each = place-back number x y xs ys (each 0) (held-marked number xs ys (omega arith) (λ s. each (suc s)))

-- and each that was there is there
marked-on : (number : ℕ) (xs ys : List (Option Session)) → MarksAll number xs ys → (s : ℕ) (e : Session) → open_at xs s ≡ Some e → (now : Session) × (open_at ys s ≡ Some now) × MarksSession number e now
marked-on number xs ys marks s e at = of (open_at ys s) refl (subst (λ o. MarksPlace number o (open_at ys s)) at (marks.each s))
  where
    of : (o : Option Session) → open_at ys s ≡ o → MarksPlace number (Some e) o → (now : Session) × (open_at ys s ≡ Some now) × MarksSession number e now
    of None is m = absurd m
    of (Some now) is m = (now, is, m)

-- they have the ids that they had
pub keeps-marked : (number : ℕ) (xs ys : List (Option Session)) (w : Window) → MarksAll number xs ys → EngineKeeps xs w → EngineKeeps ys w
keeps-marked number xs ys w marks keeps = record {
  count = marks.count ∙ keeps.count;
  own = record {
    active = λ s now x at mine. let e = marked-at number xs ys marks s now at in keeps.own.active s e.0 x e.1 (had e.0 now x e.2 mine);
    distinct = λ s now at. let e = marked-at number xs ys marks s now at in subst AreDistinct (sym (ap (λ (f : Session). f.own.ids) e.2.is)) (keeps.own.distinct s e.0 e.1);
    apart = λ s o now then_ x at bt mine theirs.
        let e = marked-at number xs ys marks s now at in
        let f = marked-at number xs ys marks o then_ bt in
        keeps.own.apart s o e.0 f.0 x e.1 f.1 (had e.0 now x e.2 mine) (had f.0 then_ x f.2 theirs);
    owned = λ x active. owned x (keeps.own.owned x active);
  };
}
  where
    had : (e now : Session) (x : ℕ) → MarksSession number e now → Contains now.own.ids x → Contains e.own.ids x
    had e now x m mine = subst (λ ids. Contains ids x) (ap (λ (f : Session). f.own.ids) m.is) mine

    owned : (x : ℕ) → (s : ℕ) × (e : Session) × (open_at xs s ≡ Some e) × Contains e.own.ids x → (s : ℕ) × (e : Session) × (open_at ys s ≡ Some e) × Contains e.own.ids x
    owned x by =
        let now = marked-on number xs ys marks by.0 by.1 by.2 in
        (by.0, now.0, now.1, subst (λ ids. Contains ids x) (sym (ap (λ (f : Session). f.own.ids) now.2.is)) by.3)

-- The index that is looked for by its number, that of the column and one.
next-is : (c : ℕ) → c + 1 ≡ suc c
next-is c = omega arith

pub lacks-at : (st : State) (c : ℕ) → c ≤ 3 → engine_index st (c + 1) ≡ None → LacksIndexOn st c
lacks-at st c off none = (omega (arith, off), ap (engine_index st) (sym (next-is c)) ∙ none)

-- it is not both
pub has-lacks : (st : State) (c : ℕ) (index : IndexView) → engine_index st (c + 1) ≡ Some index → ¬ LacksIndexOn st c
has-lacks st c index at lacks = none-some index (sym lacks.1 ∙ (ap (engine_index st) (sym (next-is c)) ∙ at))

-- Who has an id, among the places that were used.
pub writer-among : (st : State) (used : List (Option Session)) (found : Option ℕ) → HoldsOpen used st.sessions
    → MatchOption found ((s : ℕ) (e : Session) → open_at used s ≡ Some e → e.own.ids ≡ []) (λ s. (e : Session) × (open_at used s ≡ Some e) × (e.own.ids ≢ []))
    → MatchOption found (¬ SomeoneHasId st) (λ s. SomeoneHasId st)
writer-among st used None holds none = λ (s, e, at, some). some (none s e (holds.each s ∙ at))
writer-among st used (Some s) holds some = (s, some.0, sym (holds.each s) ∙ some.1, some.2)
