use Rattle.std.proofs.Common.{map, string_bytes}
use Rattle.toml.specs.View.{table_view}
use Rattle.ospf_files.specs.Explained.{IsUnknownPlace}
use Rattle.ospf_config.specs.Tables.{IsOtherKey, keys_of}
use Rattle.ospf_files.proofs.PlaceLists.{Onward}
use Rattle.ospf_files.proofs.places.add_unknown.Given as goal

abbrev pub invariant-loop-key : goal.invariant-loop-key
invariant-loop-key l =
    Onward (IsOtherKey (map (λ k. k.now) l.known)) (IsUnknownPlace l.section (table_view l.table)) (keys_of (table_view l.table)) (map (λ k. string_bytes k) l.key-iterator) l.fn.out.items l.out.items
