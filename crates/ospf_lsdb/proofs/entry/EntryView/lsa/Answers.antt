use Rattle.std.proofs.Common.{◌∷◌, ◌∙◌, ap, sym, rules, List, ℕ}
use Rattle.ospf_lsa.specs.Header.{header_of}
use Rattle.ospf_lsdb.specs.Database.{Entry, key_in, lsa_of}
use Rattle.ospf_lsdb.proofs.EntryLemmas.{key_of-contents, header_at}
use Rattle.ospf_lsdb.proofs.entry.EntryView.lsa.Goals as goal

pub returns-clause-key : goal.returns-clause-key
returns-clause-key c = key_of-contents c.view.result ∙ ap key_in (search rules)

pub returns-clause-all_but_age : goal.returns-clause-all_but_age
returns-clause-all_but_age c =
    ap (λ (e : Entry). header_of (lsa_of e)) (sym c.self.view_is)
    ∙ header_at (0 ∷ 0 ∷ c.self.inside.lsa.now) c.self.inside.age c.self.invariant
    ∙ ap (λ (lsa : List ℕ). record (header_of lsa) { age = c.self.inside.age }) (sym c.view.ensures)
    ∙ ap (λ (e : Entry). record (header_of c.view.result) { age = e.age }) c.self.view_is
