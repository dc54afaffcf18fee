-- What is printed of a kind of LSA.
use Rattle.std.specs.Prelude.{codes}
use Rattle.ospf_base.specs.declared.ids.Kind.{Kind}
use Rattle.ospf_base.specs.declared.ids.Kind.TheVariants.{Router, Network}
use Rattle.ospf_script.specs.Words.{Text}

-- the word of a kind of LSA
abbrev pub lsa_kind_text : Kind → Text
lsa_kind_text Router = codes "router"
lsa_kind_text Network = codes "network"
