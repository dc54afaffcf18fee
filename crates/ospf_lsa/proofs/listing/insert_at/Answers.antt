use Rattle.std.proofs.Common.{◌≡◌, ap, ◌∙◌}
use Rattle.ospf_lsa.specs.Lsa.{key_of}
use Rattle.ospf_lsa.proofs.KeyLemmas.{keys_inserted}
use Rattle.ospf_lsa.proofs.listing.insert_at.Goals as goal

pub returns-clause-keys : goal.returns-clause-keys
returns-clause-keys c =
    let key : c.key-key.result ≡ key_of c.args.lsa = c.key-key.ensures ∙ ap key_of c.view.ensures.same in
    let ok = c.if-is_err.ensures.negation in
    rw (c.in_ok-insert.ensures.items, key, c.insert-2.ensures.items, ok) (keys_inserted c.args.keys.now.items c.args.lsas.now.items c.requires.keys c.args.at c.args.lsa)
