-- Settings in range have no fault.
use Rattle.std.proofs.Common.{◌≡◌, ℕ, ◌≤◌, false, None, arith, refl, sym, ◌∙◌}
use Rattle.std.proofs.lemmas.Bool.Decides.{nat_tests}
use Rattle.std.proofs.lemmas.Option.{none-some}
use Rattle.calls.specs.declared.settings.Settings.{Settings}
use Rattle.calls.specs.declared.settings.SettingsFault.{SettingsFault}
use Rattle.calls.specs.declared.settings.SettingsFault.TheVariants.{MaxPages, StopAge, FreezeMinAge, FirstXid, DeadLimit, NoMemory}
use Rattle.calls.specs.Words.{AreSettings, is_outside, fault_in, FirstFault}

inside : (low high n : ℕ) → (low ≤ n) × (n ≤ high) → is_outside low high n ≡ false
inside low high n within = let from = within.0 in let to = within.1 in grind (arith, nat_tests)

none_outside : (s : Settings) → AreSettings s → fault_in s ≡ None
none_outside s are =
    let pages = inside 1 65536 s.max_pages are.max_pages in
    let stop = inside 1 2144483648 s.stop_age are.stop_age in
    let freeze = inside 0 1000000000 s.freeze_min_age (omega arith, are.freeze_min_age) in
    let first = inside 3 4294967295 s.first_xid are.first_xid in
    let dead = inside 1 4096 s.dead_limit are.dead_limit in
    rw (pages, stop, freeze, first, dead) refl

-- a setting that is out of range isn't in range
pub out_of_range : (s : Settings) (f : SettingsFault) → FirstFault s f → (f ≡ NoMemory → ⊥) → AreSettings s → ⊥
out_of_range s NoMemory is other are = other refl
out_of_range s MaxPages is other are = none-some MaxPages (sym (none_outside s are) ∙ is)
out_of_range s StopAge is other are = none-some StopAge (sym (none_outside s are) ∙ is)
out_of_range s FreezeMinAge is other are = none-some FreezeMinAge (sym (none_outside s are) ∙ is)
out_of_range s FirstXid is other are = none-some FirstXid (sym (none_outside s are) ∙ is)
out_of_range s DeadLimit is other are = none-some DeadLimit (sym (none_outside s are) ∙ is)
