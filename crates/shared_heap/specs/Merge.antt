-- A journal as a merge of the workers' lists.
use Rattle.std.specs.Prelude.{ℕ, ◌≡◌, ◌==◌, ◌&&◌, not, Bool, List, [], ◌∷◌, slice_index_or, if◌then◌else◌, map, Vec}
use Rattle.std.specs.declared.alloc.Global.{Global}
use Rattle.calls.specs.declared.step.Step.{Step}
use Rattle.calls.specs.declared.reply.Reply.{Reply}
use Rattle.shared_heap.specs.Replies.{is_busy_reply}
use Rattle.shared_heap.specs.declared.line.WorkerLine.{WorkerLine}

-- An entry with this reply does the line: a plain line is done by any, a waiting one by any that is not Busy
abbrev pub is_done_by : WorkerLine → Reply → Bool
is_done_by line reply = not (line.wait && is_busy_reply reply)

-- what is left of a list after an entry for its first line
abbrev pub left_after : WorkerLine → List WorkerLine → Reply → List WorkerLine
left_after line more reply = if is_done_by line reply then more else (line ∷ more)

-- one worker has this left, the others what they had
abbrev pub with_list : (left : ℕ → List WorkerLine) → (worker : ℕ) → List WorkerLine → (other : ℕ) → List WorkerLine
with_list left worker lines other = if other == worker then lines else left other

-- What is left of each worker's list, before and after these entries, where these are their workers: each entry is the step of its
-- worker's next line.
abbrev pub Merges : (ℕ → List WorkerLine) → List ℕ → List (Step × Reply) → (ℕ → List WorkerLine) → Type 0
Merges left [] [] last = (worker : ℕ) → left worker ≡ last worker
Merges left (worker ∷ workers) (entry ∷ entries) last =
    (line : WorkerLine) × (more : List WorkerLine) × (left worker ≡ line ∷ more) × (entry.0 ≡ line.step)
    × Merges (with_list left worker (left_after line more entry.1)) workers entries last
Merges left workers entries last = ⊥

-- the list of a worker
abbrev pub list_at : List (List WorkerLine) → ℕ → List WorkerLine
list_at lists worker = slice_index_or lists worker []

-- for some choice of a worker for each entry, the entries do all lines of all lists
abbrev pub IsMerge : List (List WorkerLine) → List (Step × Reply) → Type 0
IsMerge lists entries = (workers : List ℕ) × Merges (list_at lists) workers entries (λ _. [])

-- the lines of these lists
abbrev pub lines_in : List (Vec WorkerLine Global) → List (List WorkerLine)
lines_in lists = map (λ (v : Vec WorkerLine Global). v.items) lists
