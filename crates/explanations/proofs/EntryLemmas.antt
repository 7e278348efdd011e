-- The place to which an entry of a key leads tells the entry.
use Rattle.std.proofs.Common.{◌≡◌, ℕ, ℤ, List, Option, Some, None, refl, sym, ap, ◌∙◌, subst}
use Rattle.std.specs.Prelude.{pos}
use Rattle.std.specs.Option.{option_map}
use Rattle.xid_circle.specs.declared.Tid.{Tid}
use Rattle.index_entries.specs.declared.entry.Entry.{Entry}
use Rattle.index_lookup.specs.Looking.{IsNextOf}
use Rattle.explanations.specs.Shown.{entry_to, IsNextPlace}

abbrev pub entry_of : ℤ → ℕ → Tid → Entry
entry_of value key place = record { value = value; key = key; tid = place }

abbrev pub tid_in : Option Entry → Option Tid
tid_in r = option_map (λ (e : Entry). e.tid) r

placed : (entries : List Entry) (key : ℕ) (from r : Option Entry) → IsNextOf entries (pos key) key from r → option_map (entry_to key) (tid_in r) ≡ r
placed entries key from None least = refl
placed entries key from (Some e) least =
    ap (λ value. Some (entry_of value key e.tid)) (sym least.1.0.0) ∙ ap (λ k. Some (entry_of e.value k e.tid)) (sym least.1.0.1)

pub next-placed : (entries : List Entry) (key : ℕ) (after : Option Tid) (from r : Option Entry) → from ≡ option_map (entry_to key) after
    → IsNextOf entries (pos key) key from r → IsNextPlace entries key after (tid_in r)
next-placed entries key after from r is least =
    subst (λ (answer : Option Entry). IsNextOf entries (pos key) key (option_map (entry_to key) after) answer) (sym (placed entries key from r least))
    (subst (λ (f : Option Entry). IsNextOf entries (pos key) key f r) is least)
