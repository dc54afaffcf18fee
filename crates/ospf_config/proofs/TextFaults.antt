-- The faults of a text that is TOML are those of its table.
use Rattle.std.proofs.Common.{◌≡◌, ℕ, List, Some, sym, subst, ◌∙◌}
use Rattle.std.proofs.lemmas.Option.{same_Some}
use Rattle.toml.specs.Data.{Members}
use Rattle.toml.specs.Parse.{parse_document}
use Rattle.ospf_config.specs.declared.fault.ConfigFault.{ConfigFault}
use Rattle.ospf_config.specs.declared.fault.ConfigFault.TheVariants as fault
use Rattle.ospf_config.specs.Fault.{IsLeastFault}
use Rattle.ospf_config.proofs.Least.{least_number, least_of}
use Rattle.ospf_config.specs.Tables.{HasConfigFault}
use Rattle.ospf_config.specs.Configs.{TextHasFault}
use Rattle.ospf_config.proofs.FaultLemmas.{never_not_toml}
use Rattle.ospf_config.proofs.PeerLists.{none_is_some}

module _ (text : List ℕ) (t : Members) (parsed : parse_document text ≡ Some t) where
  of_table : (f : ConfigFault) → (u : Members) × (parse_document text ≡ Some u) × HasConfigFault u f → HasConfigFault t f
  of_table f (u, is, has) = subst (λ (x : Members). HasConfigFault x f) (same_Some u t (sym is ∙ parsed)) has

  table_has : (f : ConfigFault) → TextHasFault text f → HasConfigFault t f
  table_has fault.NotToml h = absurd (none_is_some t (sym h ∙ parsed))
  table_has fault.Missing h = of_table fault.Missing h
  table_has fault.Type h = of_table fault.Type h
  table_has fault.Range h = of_table fault.Range h
  table_has fault.ZeroCost h = of_table fault.ZeroCost h
  table_has fault.SamePrefix h = of_table fault.SamePrefix h
  table_has fault.DeadNotOverHello h = of_table fault.DeadNotOverHello h
  table_has fault.Unknown h = of_table fault.Unknown h
  table_has fault.Memory h = of_table fault.Memory h

  text_has : (f : ConfigFault) → HasConfigFault t f → TextHasFault text f
  text_has fault.NotToml h = absurd (never_not_toml t h)
  text_has fault.Missing h = (t, parsed, h)
  text_has fault.Type h = (t, parsed, h)
  text_has fault.Range h = (t, parsed, h)
  text_has fault.ZeroCost h = (t, parsed, h)
  text_has fault.SamePrefix h = (t, parsed, h)
  text_has fault.DeadNotOverHello h = (t, parsed, h)
  text_has fault.Unknown h = (t, parsed, h)
  text_has fault.Memory h = (t, parsed, h)

  pub text_free : ((f : ConfigFault) → HasConfigFault t f → ⊥) → (f : ConfigFault) → TextHasFault text f → ⊥
  text_free free f h = free f (table_has f h)

  pub text_least : (f : ConfigFault) → IsLeastFault (HasConfigFault t) f → IsLeastFault (TextHasFault text) f
  text_least f h = least_of _ f (text_has f h.broken) (λ g has. least_number _ f h g (table_has g has))
