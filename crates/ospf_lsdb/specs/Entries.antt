-- Stored entries as a walk lends them (RFC 2328, section 14).
use Rattle.std.specs.Prelude.{ℕ, ◌≤◌}
use Rattle.ospf_base.specs.Constants.{max_age}
use Rattle.ospf_lsdb.specs.Database.{Entry}
use Rattle.ospf_lsdb.specs.Timers.{age_at}
use Rattle.ospf_lsdb.specs.declared.dated.Stored.{Stored}

-- a stored entry as it is at a moment
abbrev pub entry_now : ℕ → Stored → Entry
entry_now clock s =
    record {
      age = age_at clock s.timer;
      contents = s.lsa;
      tick = s.tick;
      by_flooding = s.by_flooding;
    }

-- it is not older than MaxAge
abbrev pub AgeFits : ℕ → Stored → Type 0
AgeFits clock s = age_at clock s.timer ≤ max_age
