use Rattle.std.proofs.Common.{◌≡◌, ◌∷◌, ℕ, sym, ◌∙◌, ap}
use Rattle.ospf_lsa.specs.declared.header.LsaHeader.{LsaHeader}
use Rattle.ospf_lsa.specs.Header.{header_of}
use Rattle.ospf_lsdb.specs.Database.{Entry, lsa_of}
use Rattle.ospf_lsdb.proofs.EntryLemmas.{header_at}
use Rattle.ospf_lsdb.proofs.entry.EntryView.header.Goals as goal

pub returns : goal.returns
returns c =
    let same = c.header-header.ensures.value ∙ ap header_of c.view.ensures in
    let age : c.age-header.result ≡ c.self.inside.age = c.age-header.ensures ∙ ap (λ (e : Entry). e.age) (sym c.self.view_is) in
    ap (λ (h : LsaHeader). record h { age = c.age-header.result }) same
    ∙ ap (λ (n : ℕ). record (header_of (0 ∷ 0 ∷ c.self.inside.lsa.now)) { age = n }) age
    ∙ sym (header_at (0 ∷ 0 ∷ c.self.inside.lsa.now) c.self.inside.age c.self.invariant)
    ∙ ap (λ (e : Entry). header_of (lsa_of e)) c.self.view_is
