-- Entries before a key and behind it, in the order of their keys (RFC 2328, section 12.1).
use Rattle.std.specs.Prelude.{List}
use Rattle.std.specs.List.{AllByRecursion}
use Rattle.ospf_base.specs.Keys.{Precedes}
use Rattle.ospf_base.specs.declared.ids.LsaKey.{LsaKey}
use Rattle.ospf_lsdb.specs.Database.{Held, key_at}

-- all of them stand before this key
abbrev pub AllBefore : LsaKey → List Held → Type 0
AllBefore key db = AllByRecursion (λ h. Precedes (key_at h) key) db

-- all of them stand behind this key
abbrev pub AllAfter : LsaKey → List Held → Type 0
AllAfter key db = AllByRecursion (λ h. Precedes key (key_at h)) db
