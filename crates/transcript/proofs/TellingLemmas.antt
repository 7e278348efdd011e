-- Replies that tell the same are allowed together.
use Rattle.std.proofs.Common.{◌≡◌, ℕ, List, ap, sym, subst, Option, None, Some}
use Rattle.std.specs.Prelude.{Vec}
use Rattle.std.specs.declared.alloc.Global.{Global}
use Rattle.std.proofs.lemmas.Option.{none-some, same_Some}
use Rattle.tuple_header.specs.declared.version.Row.{Row}
use Rattle.history.specs.World.{World, view}
use Rattle.history.specs.Cursors.{AreOf, HandsOutPart, HandsOutKeys}
use Rattle.calls.specs.declared.step.Step.{Step}
use Rattle.calls.specs.declared.step.Step.TheVariants as step
use Rattle.calls.specs.declared.reply.Reply.{Reply}
use Rattle.calls.specs.declared.reply.Reply.TheVariants as reply
use Rattle.refinement.specs.Allowed.{AllowsReply}
use Rattle.reply_text.specs.Reading.{Telling, plain, rows, keys, told}

allows_rows : (w : World) (s : Step) (v u : Vec Row Global) → v.items ≡ u.items → AllowsReply w s (reply.Rows v) → AllowsReply w s (reply.Rows u)
allows_rows w (step.Begin s) v u e h = absurd h
allows_rows w (step.BeginReadCommitted s) v u e h = absurd h
allows_rows w (step.Get s k) v u e h = absurd h
allows_rows w (step.Insert s row) v u e h = absurd h
allows_rows w (step.Update s row) v u e h = absurd h
allows_rows w (step.Delete s k) v u e h = absurd h
allows_rows w (step.Savepoint s) v u e h = absurd h
allows_rows w (step.RollbackTo s) v u e h = absurd h
allows_rows w (step.Release s) v u e h = absurd h
allows_rows w (step.Commit s) v u e h = absurd h
allows_rows w (step.Abort s) v u e h = absurd h
allows_rows w (step.OpenIndex s i low high) v u e h = absurd h
allows_rows w (step.OpenHeap s) v u e h = absurd h
allows_rows w (step.OpenKeys s low high) v u e h = absurd h
allows_rows w (step.Close s) v u e h = absurd h
allows_rows w (step.Prune p) v u e h = absurd h
allows_rows w (step.ApplyPlan p plan) v u e h = absurd h
allows_rows w (step.VacuumBegin mode) v u e h = absurd h
allows_rows w step.VacuumStep v u e h = absurd h
allows_rows w step.VacuumCancel v u e h = absurd h
allows_rows w (step.CreateIndex c) v u e h = absurd h
allows_rows w (step.Next s n) v u e h = (h.0, h.1, h.2, h.3, subst (λ (xs : List Row). HandsOutPart h.1.order n h.1.rest xs) e h.4)
allows_rows w (step.TakePage s p) v u e h = (h.0, h.1, subst (λ (xs : List Row). AreOf (view w.history h.0) xs) e h.2)

allows_keys : (w : World) (s : Step) (v u : Vec ℕ Global) → v.items ≡ u.items → AllowsReply w s (reply.Keys v) → AllowsReply w s (reply.Keys u)
allows_keys w (step.Begin s) v u e h = absurd h
allows_keys w (step.BeginReadCommitted s) v u e h = absurd h
allows_keys w (step.Get s k) v u e h = absurd h
allows_keys w (step.Insert s row) v u e h = absurd h
allows_keys w (step.Update s row) v u e h = absurd h
allows_keys w (step.Delete s k) v u e h = absurd h
allows_keys w (step.Savepoint s) v u e h = absurd h
allows_keys w (step.RollbackTo s) v u e h = absurd h
allows_keys w (step.Release s) v u e h = absurd h
allows_keys w (step.Commit s) v u e h = absurd h
allows_keys w (step.Abort s) v u e h = absurd h
allows_keys w (step.OpenIndex s i low high) v u e h = absurd h
allows_keys w (step.OpenHeap s) v u e h = absurd h
allows_keys w (step.OpenKeys s low high) v u e h = absurd h
allows_keys w (step.Close s) v u e h = absurd h
allows_keys w (step.Prune p) v u e h = absurd h
allows_keys w (step.ApplyPlan p plan) v u e h = absurd h
allows_keys w (step.VacuumBegin mode) v u e h = absurd h
allows_keys w step.VacuumStep v u e h = absurd h
allows_keys w step.VacuumCancel v u e h = absurd h
allows_keys w (step.CreateIndex c) v u e h = absurd h
allows_keys w (step.Next s n) v u e h = (h.0, h.1, h.2, h.3, subst (λ (xs : List ℕ). HandsOutKeys h.1.order n h.1.rest xs) e h.4)
allows_keys w (step.TakePage s p) v u e h = absurd h

abbrev untold : Telling → Option Reply
untold (plain r) = Some r
untold t = None

abbrev told_rows : Telling → Option (List Row)
told_rows (rows xs) = Some xs
told_rows t = None

abbrev told_keys : Telling → Option (List ℕ)
told_keys (keys xs) = Some xs
told_keys t = None

plain_once : (a b : Reply) → untold (told b) ≡ Some a → b ≡ a
plain_once a reply.Done e = same_Some reply.Done a e
plain_once a (reply.Found x) e = same_Some (reply.Found x) a e
plain_once a reply.Committed e = same_Some reply.Committed a e
plain_once a reply.RolledBack e = same_Some reply.RolledBack a e
plain_once a reply.End e = same_Some reply.End a e
plain_once a (reply.Worked x) e = same_Some (reply.Worked x) a e
plain_once a (reply.Ended x) e = same_Some (reply.Ended x) a e
plain_once a (reply.Refused x) e = same_Some (reply.Refused x) a e
plain_once a (reply.Rows u) e = absurd (none-some a e)
plain_once a (reply.Keys u) e = absurd (none-some a e)

rows_once : (w : World) (s : Step) (v : Vec Row Global) (b : Reply) → told_rows (told b) ≡ Some v.items → AllowsReply w s (reply.Rows v) → AllowsReply w s b
rows_once w s v reply.Done e h = absurd (none-some v.items e)
rows_once w s v (reply.Found x) e h = absurd (none-some v.items e)
rows_once w s v reply.Committed e h = absurd (none-some v.items e)
rows_once w s v reply.RolledBack e h = absurd (none-some v.items e)
rows_once w s v reply.End e h = absurd (none-some v.items e)
rows_once w s v (reply.Worked x) e h = absurd (none-some v.items e)
rows_once w s v (reply.Ended x) e h = absurd (none-some v.items e)
rows_once w s v (reply.Refused x) e h = absurd (none-some v.items e)
rows_once w s v (reply.Rows u) e h = allows_rows w s v u (sym (same_Some u.items v.items e)) h
rows_once w s v (reply.Keys u) e h = absurd (none-some v.items e)

keys_once : (w : World) (s : Step) (v : Vec ℕ Global) (b : Reply) → told_keys (told b) ≡ Some v.items → AllowsReply w s (reply.Keys v) → AllowsReply w s b
keys_once w s v reply.Done e h = absurd (none-some v.items e)
keys_once w s v (reply.Found x) e h = absurd (none-some v.items e)
keys_once w s v reply.Committed e h = absurd (none-some v.items e)
keys_once w s v reply.RolledBack e h = absurd (none-some v.items e)
keys_once w s v reply.End e h = absurd (none-some v.items e)
keys_once w s v (reply.Worked x) e h = absurd (none-some v.items e)
keys_once w s v (reply.Ended x) e h = absurd (none-some v.items e)
keys_once w s v (reply.Refused x) e h = absurd (none-some v.items e)
keys_once w s v (reply.Keys u) e h = allows_keys w s v u (sym (same_Some u.items v.items e)) h
keys_once w s v (reply.Rows u) e h = absurd (none-some v.items e)

pub allows_told : (w : World) (s : Step) (a b : Reply) → told a ≡ told b → AllowsReply w s a → AllowsReply w s b
allows_told w s reply.Done b e h = subst (λ (r : Reply). AllowsReply w s r) (sym (plain_once reply.Done b (ap untold (sym e)))) h
allows_told w s (reply.Found x) b e h = subst (λ (r : Reply). AllowsReply w s r) (sym (plain_once (reply.Found x) b (ap untold (sym e)))) h
allows_told w s reply.Committed b e h = subst (λ (r : Reply). AllowsReply w s r) (sym (plain_once reply.Committed b (ap untold (sym e)))) h
allows_told w s reply.RolledBack b e h = subst (λ (r : Reply). AllowsReply w s r) (sym (plain_once reply.RolledBack b (ap untold (sym e)))) h
allows_told w s reply.End b e h = subst (λ (r : Reply). AllowsReply w s r) (sym (plain_once reply.End b (ap untold (sym e)))) h
allows_told w s (reply.Worked x) b e h = subst (λ (r : Reply). AllowsReply w s r) (sym (plain_once (reply.Worked x) b (ap untold (sym e)))) h
allows_told w s (reply.Ended x) b e h = subst (λ (r : Reply). AllowsReply w s r) (sym (plain_once (reply.Ended x) b (ap untold (sym e)))) h
allows_told w s (reply.Refused x) b e h = subst (λ (r : Reply). AllowsReply w s r) (sym (plain_once (reply.Refused x) b (ap untold (sym e)))) h
allows_told w s (reply.Rows v) b e h = rows_once w s v b (ap told_rows (sym e)) h
allows_told w s (reply.Keys v) b e h = keys_once w s v b (ap told_keys (sym e)) h
