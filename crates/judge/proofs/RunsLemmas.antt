-- A run, one step further.
use Rattle.std.proofs.Common.{◌≡◌, ℕ, ◌+◌, ◌<◌, List, [], ◌∷◌, ◌++◌, length, take, get_or, refl, sym, ap, ◌∙◌, subst}
use Rattle.std.proofs.lemmas.List.{take_more}
use Rattle.std.proofs.lemmas.Option.{slice_get_read}
use Rattle.history.specs.World.{World}
use Rattle.calls.specs.declared.step.Step.{Step}
use Rattle.calls.specs.declared.reply.Reply.{Reply}
use Rattle.refinement.specs.Allowed.{AllowsReply, after_reply, IsRun, after}
use Rattle.following.specs.Following.{TakesMemory}
use Rattle.judge.specs.Runs.{HasJudged, StopsForMemory}

pub run-push : (w : World) (steps : List Step) (replies : List Reply) (s : Step) (r : Reply) → IsRun w steps replies → AllowsReply (after w steps replies) s r → IsRun w (steps ++ s ∷ []) (replies ++ r ∷ [])
run-push w [] [] s r run allows = (allows, tt)
run-push w [] (b ∷ replies) s r run allows = absurd run
run-push w (a ∷ steps) [] s r run allows = absurd run
run-push w (a ∷ steps) (b ∷ replies) s r run allows = (run.0, run-push (after_reply w a b) steps replies s r run.1 allows)

pub after-push : (w : World) (steps : List Step) (replies : List Reply) (s : Step) (r : Reply) → IsRun w steps replies → after w (steps ++ s ∷ []) (replies ++ r ∷ []) ≡ after_reply (after w steps replies) s r
after-push w [] [] s r run = refl
after-push w [] (b ∷ replies) s r run = absurd run
after-push w (a ∷ steps) [] s r run = absurd run
after-push w (a ∷ steps) (b ∷ replies) s r run = after-push (after_reply w a b) steps replies s r run.1

run-last : (w : World) (steps : List Step) (replies : List Reply) (s : Step) (r : Reply) → IsRun w steps replies → IsRun w (steps ++ s ∷ []) (replies ++ r ∷ []) → AllowsReply (after w steps replies) s r
run-last w [] [] s r run longer = longer.0
run-last w [] (b ∷ replies) s r run longer = absurd run
run-last w (a ∷ steps) [] s r run longer = absurd run
run-last w (a ∷ steps) (b ∷ replies) s r run longer = run-last (after_reply w a b) steps replies s r run.1 longer.1

taken : {X : Type 0} (xs : List X) (i : ℕ) (x : X) → i < length xs → x ≡ get_or xs i x → take (i + 1) xs ≡ take i xs ++ x ∷ []
taken xs i x within is = take_more xs i x within ∙ ap (λ y. take i xs ++ y ∷ []) (sym is)

pub judged-more : (w now new : World) (steps : List Step) (replies : List Reply) (i : ℕ) (s : Step) (r : Reply) → i < length steps → i < length replies → s ≡ get_or steps i s → r ≡ get_or replies i r
    → HasJudged w steps replies i now → AllowsReply now s r → new ≡ after_reply now s r → HasJudged w steps replies (i + 1) new
judged-more w now new steps replies i s r within within' is is' so allows goes_on =
    let allowed : AllowsReply (after w (take i steps) (take i replies)) s r = subst (λ v. AllowsReply v s r) so.is allows in record {
      run = subst (λ l. IsRun w l (take (i + 1) replies)) (sym (taken steps i s within is)) (subst (λ l. IsRun w (take i steps ++ s ∷ []) l) (sym (taken replies i r within' is'))
          (run-push w (take i steps) (take i replies) s r so.run allowed));
      is = goes_on ∙ (ap (λ v. after_reply v s r) so.is ∙ (sym (after-push w (take i steps) (take i replies) s r so.run)
          ∙ (ap (λ l. after w l (replies' i)) (sym (taken steps i s within is)) ∙ ap (λ l. after w (take (i + 1) steps) l) (sym (taken replies i r within' is')))));
    }
  where
    replies' : ℕ → List Reply
    replies' i = take i replies ++ r ∷ []

pub judged-no_more : (w now : World) (steps : List Step) (replies : List Reply) (i : ℕ) (s : Step) (r : Reply) → i < length steps → i < length replies → s ≡ get_or steps i s → r ≡ get_or replies i r
    → HasJudged w steps replies i now → ¬ AllowsReply now s r → ¬ IsRun w (take (i + 1) steps) (take (i + 1) replies)
judged-no_more w now steps replies i s r within within' is is' so never longer =
    never (subst (λ v. AllowsReply v s r) (sym so.is) (run-last w (take i steps) (take i replies) s r so.run
    (subst (λ l. IsRun w (take i steps ++ s ∷ []) l) (taken replies i r within' is') (subst (λ l. IsRun w l (take (i + 1) replies)) (taken steps i s within is) longer))))

pub judged-stops : (w now new : World) (steps : List Step) (replies : List Reply) (i : ℕ) (s : Step) (r : Reply) → i < length steps → i < length replies → s ≡ get_or steps i s → r ≡ get_or replies i r
    → HasJudged w steps replies i now → new ≡ now → TakesMemory s r → StopsForMemory w steps replies new
judged-stops w now new steps replies i s r within within' is is' so stays takes =
    (i, s, r, subst (HasJudged w steps replies i) (sym stays) so, slice_get_read steps (length steps) i s refl within is, slice_get_read replies (length replies) i r refl within' is', takes)
