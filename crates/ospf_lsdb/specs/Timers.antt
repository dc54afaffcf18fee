-- Entries as they are stored: how old each is follows from a moment on
-- a ring (RFC 2328, section 14).
use Rattle.std.specs.Prelude.{◌≡◌, ℕ, ◌+◌, ◌<◌, ◌≤◌, Bool, true, List, Option, Some, option_map, if◌then◌else◌}
use Rattle.std.specs.List.{AllByRecursion}
use Rattle.std.specs.Map.{lookup, keys_of}
use Rattle.ospf_base.specs.Rising.{IsRisingBy}
use Rattle.ospf_base.specs.Constants.{max_age}
use Rattle.ospf_base.specs.Keys.{Precedes, same_key}
use Rattle.ospf_base.specs.declared.ids.LsaKey.{LsaKey}
use Rattle.ospf_lsdb.specs.Database.{Held, key_in, is_told}
use Rattle.ospf_lsdb.specs.Moments.{ahead, has_due, IsIdleUntil}
use Rattle.ospf_lsdb.specs.declared.moments.AgeDue.{AgeDue}
use Rattle.ospf_lsdb.specs.declared.dated.Timer.{Timer}
use Rattle.ospf_lsdb.specs.declared.dated.Timer.TheVariants.{Since, Expired}
use Rattle.ospf_lsdb.specs.declared.dated.Stored.{Stored}

-- how old an entry is
unfoldable pub age_at : ℕ → Timer → ℕ
age_at clock (Since birth) = ahead birth clock
age_at clock Expired = max_age

-- a stored entry as it is at a moment
abbrev pub held_at : ℕ → List AgeDue → LsaKey × Stored → Held
held_at clock due e = record {
  entry =
      record {
        age = age_at clock e.1.timer;
        contents = e.1.lsa;
        tick = e.1.tick;
        by_flooding = e.1.by_flooding;
      };
  reached = has_due due (record { moment = clock; age = age_at clock e.1.timer; key = e.0 });
}

-- the stored entry of a key
abbrev pub stored_of : List (LsaKey × Stored) → LsaKey → Option Stored
stored_of entries key = lookup (λ k. same_key key k) entries

-- one brought to MaxAge
abbrev pub timer_stopped : Stored → Stored
timer_stopped s = record s { timer = Expired }

-- the entries of these keys reach MaxAge, and all others are unchanged
abbrev pub StopsTimers : (LsaKey → Bool) → List (LsaKey × Stored) → List (LsaKey × Stored) → Type 0
StopsTimers test before after =
    (q : LsaKey)
    → stored_of after q
    ≡ (if test q then option_map timer_stopped (stored_of before q) else stored_of before q)

-- the present age of the entry of a key
abbrev pub age_of : ℕ → List (LsaKey × Stored) → LsaKey → Option ℕ
age_of clock entries key = option_map (λ s. age_at clock s.timer) (stored_of entries key)

-- this is the moment at which an entry of such an age reaches an age that a tick reports
pub record ComesToAge (clock : ℕ) (present : Option ℕ) (d : AgeDue) : Type 0 where
  pub told : is_told d.age ≡ true
  pub within : d.moment < 65536
  pub age : ℕ
  pub is : present ≡ Some age
  pub then_is : age + ahead clock d.moment ≡ d.age

-- what is due is what entries will reach; what they reached at this very moment may stay until
-- the next tick, as long as it holds
pub record AreDue (clock : ℕ) (entries : List (LsaKey × Stored)) (due : List AgeDue) : Type 0 where
  pub sound : (d : AgeDue) → has_due due d ≡ true → ComesToAge clock (age_of clock entries d.key) d
  pub whole : (d : AgeDue) → 0 < ahead clock d.moment
      → ComesToAge clock (age_of clock entries d.key) d → has_due due d ≡ true

-- each entry is stored under its key, and its timer runs below MaxAge
abbrev pub IsStored : ℕ → LsaKey × Stored → Type 0
IsStored clock e =
    (key_in e.1.lsa ≡ e.0) × (age_at clock e.1.timer ≤ max_age)
    × (age_at clock e.1.timer ≡ max_age → e.1.timer ≡ Expired)

-- a database as it is stored, at this moment, and the ages that its entries have yet to reach
pub record AreKeptEntries (clock : ℕ) (entries : List (LsaKey × Stored)) (due : List AgeDue)
    : Type 0 where
  pub on_ring : clock < 65536
  pub stored : AllByRecursion (IsStored clock) entries
  pub rising : IsRisingBy Precedes (keys_of entries)
  pub are_due : AreDue clock entries due

-- what is stored at a moment, and the moment before which nothing is due
pub record IsRunning (clock next : ℕ) (entries : List (LsaKey × Stored)) (due : List AgeDue)
    : Type 0 where
  pub kept : AreKeptEntries clock entries due
  pub quiet : IsIdleUntil clock (ahead clock next) due
