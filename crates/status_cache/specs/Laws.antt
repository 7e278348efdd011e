-- The laws of a cache: it agrees with its table through each change of that.
use Rattle.std.specs.Prelude.{ℕ, List, Option, Contains}
use Rattle.commit_status.specs.declared.status.Status.{Status}
use Rattle.commit_status.specs.Window.{Window, IsWindow, IsActive, IsUpToNext}
use Rattle.commit_status.specs.Changes.{Gives, Finishes, Truncates}
use Rattle.status_cache.specs.Held.{HaveEnded, CacheAgrees, held_from}

-- an id is given
abbrev pub GivingKeepsCache : Type 0
GivingKeepsCache = (w v : Window) (parent : Option ℕ) (held : List (ℕ × Status)) → IsWindow w → IsWindow v → Gives w v parent
    → CacheAgrees held w → CacheAgrees held v

-- ids in progress take a status
abbrev pub FinishingKeepsCache : Type 0
FinishingKeepsCache = (w v : Window) (ids : List ℕ) (status : Status) (held : List (ℕ × Status)) → HaveEnded held
    → ((x : ℕ) → Contains ids x → IsActive w x) → Finishes w v ids status → CacheAgrees held w → CacheAgrees held v

-- the ids before x are forgotten, and dropped from the cache
abbrev pub TruncatingKeepsCache : Type 0
TruncatingKeepsCache = (w v : Window) (x : ℕ) (held : List (ℕ × Status)) → IsWindow w → IsWindow v → IsUpToNext w x → Truncates w v x
    → CacheAgrees held w → CacheAgrees (held_from x held) v
