use Rattle.std.proofs.Common.{List, [], ◌∷◌, ◌++◌, ◌<◌, ◌+◌, ℕ, ap, sym, subst, ◌∙◌, refl, length, set}
use Rattle.std.proofs.lemmas.List.{get_or_default}
use Rattle.shared_heap.proofs.Merging.{carries-done, carries-waits}
use Rattle.shared_heap.specs.Work.{WorkView, left_of, BeginsWith}
use Rattle.shared_heap.specs.Merge.{lines_in}
use Rattle.shared_heap.proofs.work.Work.do_line.Goals as goal

pub invariant_of-self-then-is_done_by : goal.invariant_of-self-then-is_done_by
invariant_of-self-then-is_done_by g c =
    let old : WorkView = record { settings = c.self.inside.settings; lists = lines_in c.self.inside.lists.items; book = c.self.inside.book; workers = c.self.inside.workers.items; done = c.self.inside.done.items } in record {
      carried = carries-done old _ c.args.worker c.in-Some.line c.in-Some.line.step c.in_ok-reply.reply
          (record {
            carried = c.self.invariant.carried;
            appends = c.in_ok-reply.ensures;
            of_line = refl;
            within = (let P : WorkView → Type 0 = λ w. c.args.worker < length w.done in subst P (sym c.self.view_is) (rw c.in-Some.is at c.in_ok-line.ensures.counted));
            next = (let P : WorkView → Type 0 = λ w. BeginsWith (left_of w.lists w.done c.args.worker) c.in-Some.line in subst P (sym c.self.view_is) (rw c.in-Some.is at c.in_ok-line.ensures.line));
            settings = refl;
            lists = refl;
            workers = c.push_reserved.ensures.items ∙ ap (λ (ws : List ℕ). ws ++ c.args.worker ∷ []) c.reserve.ensures.items;
          })
          (sym c.is_done_by.ensures ∙ c.if-is_done_by.true)
          (let within : c.args.worker < length c.self.inside.done.items = (let P : WorkView → Type 0 = λ w. c.args.worker < length w.done in subst P (sym c.self.view_is) (rw c.in-Some.is at c.in_ok-line.ensures.counted)) in
          ap (λ (n : ℕ). set c.self.inside.done.items c.args.worker (n + 1)) (c.index_mut.ensures.value ∙ get_or_default c.self.inside.done.items c.args.worker c.index_mut.result.now 0 within));
      of_settings = c.self.invariant.of_settings;
      of_lists = c.self.invariant.of_lists;
    }

pub invariant_of-self-else-is_done_by : goal.invariant_of-self-else-is_done_by
invariant_of-self-else-is_done_by g c =
    let old : WorkView = record { settings = c.self.inside.settings; lists = lines_in c.self.inside.lists.items; book = c.self.inside.book; workers = c.self.inside.workers.items; done = c.self.inside.done.items } in record {
      carried = carries-waits old _ c.args.worker c.in-Some.line c.in-Some.line.step c.in_ok-reply.reply
          (record {
            carried = c.self.invariant.carried;
            appends = c.in_ok-reply.ensures;
            of_line = refl;
            within = (let P : WorkView → Type 0 = λ w. c.args.worker < length w.done in subst P (sym c.self.view_is) (rw c.in-Some.is at c.in_ok-line.ensures.counted));
            next = (let P : WorkView → Type 0 = λ w. BeginsWith (left_of w.lists w.done c.args.worker) c.in-Some.line in subst P (sym c.self.view_is) (rw c.in-Some.is at c.in_ok-line.ensures.line));
            settings = refl;
            lists = refl;
            workers = c.push_reserved.ensures.items ∙ ap (λ (ws : List ℕ). ws ++ c.args.worker ∷ []) c.reserve.ensures.items;
          })
          (sym c.is_done_by.ensures ∙ c.if-is_done_by.false)
          refl;
      of_settings = c.self.invariant.of_settings;
      of_lists = c.self.invariant.of_lists;
    }
