-- Laws on databases: what the layers above read of them.
use Rattle.std.specs.Prelude.{◌≡◌, List, Some, option_map, if◌then◌else◌}
use Rattle.ospf_base.specs.declared.ids.LsaKey.{LsaKey}
use Rattle.ospf_lsdb.specs.Database.{Entry, Held, key_in, held_of, entry_of, aged, IsDatabase, Installs, Ages}
use Rattle.ospf_base.specs.Keys.{same_key}

-- an install changes the entry of one key
abbrev pub InstallsOne : Type 0
InstallsOne = (e : Entry) (before after : List Held) → Installs e before after
    → (key : LsaKey)
    → entry_of after key
    ≡ (if same_key (key_in e.contents) key then Some e else entry_of before key)

-- a tick makes each entry older, and does nothing else
abbrev pub TickAgesAll : Type 0
TickAgesAll =
    (before after : List Held) → Ages before after → (key : LsaKey)
    → entry_of after key ≡ option_map aged (entry_of before key)

-- databases that have the same at each key are the same
abbrev pub OneDatabaseOfAMap : Type 0
OneDatabaseOfAMap =
    (a b : List Held) → IsDatabase a → IsDatabase b
    → ((key : LsaKey) → held_of a key ≡ held_of b key) → a ≡ b
