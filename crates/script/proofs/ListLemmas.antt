-- The lists of workers, as lines are added.
use Rattle.std.proofs.Common.{◌≡◌, ℕ, ◌<◌, Bool, true, false, cond, eqb, List, [], ◌∷◌, ◌++◌, length, map, set, get_or, refl, ap, ◌∙◌, sym, arith, suc, zero}
use Rattle.std.proofs.lemmas.List.{append-nil, map-set, get_or-map}
use Rattle.std.proofs.lemmas.Grind.{flat_map-append}
use Rattle.calls.specs.declared.step.Step.{Step}
use Rattle.script_text.specs.declared.worker_step.WorkerStep.{WorkerStep}
use Rattle.shared_heap.specs.declared.line.WorkerLine.{WorkerLine}
use Rattle.std.specs.Prelude.{Vec}
use Rattle.std.specs.declared.alloc.Global.{Global}
use Rattle.shared_heap.specs.Merge.{lines_in}
use Rattle.script.specs.Threads.{work_of, work_for, lists_for, with_work}

-- what a line adds to a worker's list
abbrev work_if : Bool → WorkerStep → List WorkerLine
work_if mine line = cond mine (work_of line ∷ []) []

added : (k : ℕ) (lines : List WorkerStep) (line : WorkerStep) → work_for k (lines ++ line ∷ []) ≡ work_for k lines ++ work_if (eqb line.worker k) line
added k lines line =
    flat_map-append (λ (l : WorkerStep). work_if (eqb l.worker k) l) lines (line ∷ []) ∙ ap (λ xs. work_for k lines ++ xs) (append-nil (work_if (eqb line.worker k) line))

-- the line of another worker adds nothing
other : (k : ℕ) (lines : List WorkerStep) (line : WorkerStep) → eqb line.worker k ≡ false → work_for k (lines ++ line ∷ []) ≡ work_for k lines
other k lines line h = added k lines line ∙ ap (λ mine. work_for k lines ++ work_if mine line) h ∙ append-nil (work_for k lines)

eight : (a b c d e f g h a' b' c' d' e' f' g' h' : List WorkerLine) → a ≡ a' → b ≡ b' → c ≡ c' → d ≡ d' → e ≡ e' → f ≡ f' → g ≡ g' → h ≡ h'
    → a ∷ b ∷ c ∷ d ∷ e ∷ f ∷ g ∷ h ∷ [] ≡ a' ∷ b' ∷ c' ∷ d' ∷ e' ∷ f' ∷ g' ∷ h' ∷ []
eight a b c d e f g h a' b' c' d' e' f' g' h' p q r s t u v w = cc

put : (worker : ℕ) (wait : Bool) (step : Step) (lines : List WorkerStep) → worker < 8
    → lists_for (lines ++ record { worker = worker; wait = wait; step = step } ∷ []) ≡ with_work (lists_for lines) (record { worker = worker; wait = wait; step = step })
put zero wait step lines small = let line : WorkerStep = record { worker = 0; wait = wait; step = step } in
    eight _ _ _ _ _ _ _ _ _ _ _ _ _ _ _ _ (added 0 lines line) (other 1 lines line refl) (other 2 lines line refl) (other 3 lines line refl) (other 4 lines line refl) (other 5 lines line refl) (other 6 lines line refl) (other 7 lines line refl)
put (suc zero) wait step lines small = let line : WorkerStep = record { worker = 1; wait = wait; step = step } in
    eight _ _ _ _ _ _ _ _ _ _ _ _ _ _ _ _ (other 0 lines line refl) (added 1 lines line) (other 2 lines line refl) (other 3 lines line refl) (other 4 lines line refl) (other 5 lines line refl) (other 6 lines line refl) (other 7 lines line refl)
put (suc (suc zero)) wait step lines small = let line : WorkerStep = record { worker = 2; wait = wait; step = step } in
    eight _ _ _ _ _ _ _ _ _ _ _ _ _ _ _ _ (other 0 lines line refl) (other 1 lines line refl) (added 2 lines line) (other 3 lines line refl) (other 4 lines line refl) (other 5 lines line refl) (other 6 lines line refl) (other 7 lines line refl)
put (suc (suc (suc zero))) wait step lines small = let line : WorkerStep = record { worker = 3; wait = wait; step = step } in
    eight _ _ _ _ _ _ _ _ _ _ _ _ _ _ _ _ (other 0 lines line refl) (other 1 lines line refl) (other 2 lines line refl) (added 3 lines line) (other 4 lines line refl) (other 5 lines line refl) (other 6 lines line refl) (other 7 lines line refl)
put (suc (suc (suc (suc zero)))) wait step lines small = let line : WorkerStep = record { worker = 4; wait = wait; step = step } in
    eight _ _ _ _ _ _ _ _ _ _ _ _ _ _ _ _ (other 0 lines line refl) (other 1 lines line refl) (other 2 lines line refl) (other 3 lines line refl) (added 4 lines line) (other 5 lines line refl) (other 6 lines line refl) (other 7 lines line refl)
put (suc (suc (suc (suc (suc zero))))) wait step lines small = let line : WorkerStep = record { worker = 5; wait = wait; step = step } in
    eight _ _ _ _ _ _ _ _ _ _ _ _ _ _ _ _ (other 0 lines line refl) (other 1 lines line refl) (other 2 lines line refl) (other 3 lines line refl) (other 4 lines line refl) (added 5 lines line) (other 6 lines line refl) (other 7 lines line refl)
put (suc (suc (suc (suc (suc (suc zero)))))) wait step lines small = let line : WorkerStep = record { worker = 6; wait = wait; step = step } in
    eight _ _ _ _ _ _ _ _ _ _ _ _ _ _ _ _ (other 0 lines line refl) (other 1 lines line refl) (other 2 lines line refl) (other 3 lines line refl) (other 4 lines line refl) (other 5 lines line refl) (added 6 lines line) (other 7 lines line refl)
put (suc (suc (suc (suc (suc (suc (suc zero))))))) wait step lines small = let line : WorkerStep = record { worker = 7; wait = wait; step = step } in
    eight _ _ _ _ _ _ _ _ _ _ _ _ _ _ _ _ (other 0 lines line refl) (other 1 lines line refl) (other 2 lines line refl) (other 3 lines line refl) (other 4 lines line refl) (other 5 lines line refl) (other 6 lines line refl) (added 7 lines line)
put (suc (suc (suc (suc (suc (suc (suc (suc worker)))))))) wait step lines small = absurd (omega arith)

-- a line is added to the list of its worker
pub lists_for-put : (lines : List WorkerStep) (line : WorkerStep) → line.worker < 8 → lists_for (lines ++ line ∷ []) ≡ with_work (lists_for lines) line
lists_for-put lines line small = put line.worker line.wait line.step lines small

-- a line is put at the end of a worker's list
pub put_work : (lists : List (Vec WorkerLine Global)) (line : WorkerStep) (x y : Vec WorkerLine Global) → line.worker < length lists → x ≡ get_or lists line.worker x → y.items ≡ x.items ++ work_of line ∷ []
    → lines_in (set lists line.worker y) ≡ with_work (lines_in lists) line
put_work lists line x y within is items =
    let at : x.items ≡ get_or (lines_in lists) line.worker [] = ap (λ (v : Vec WorkerLine Global). v.items) is ∙ sym (get_or-map (λ (v : Vec WorkerLine Global). v.items) lists line.worker x [] within) in
    map-set (λ (v : Vec WorkerLine Global). v.items) lists line.worker y
    ∙ ap (λ (zs : List WorkerLine). set (lines_in lists) line.worker zs) (items ∙ ap (λ (zs : List WorkerLine). zs ++ work_of line ∷ []) at)
