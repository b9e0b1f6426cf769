-- The files of hosts, host after host.
use Rattle.std.proofs.Common.{◌≡◌, ℕ, ◌+◌, List, [], ◌∷◌, ◌++◌, length, map, sym, ap, ◌∙◌, arith, append_assoc, append-nil}
use Rattle.mtree_inv.specs.declared.entry.Entry.{Entry}
use Rattle.hosts_join.specs.declared.host.Host.{Host}
use Rattle.unify.specs.Reading.{added_on, added_from}

-- one more host
pub added_from-push : (h n : ℕ) (hosts : List (Host × List Entry)) (host : Host) (files : List Entry) → n ≡ h + length hosts → added_from h (hosts ++ (host, files) ∷ []) ≡ added_from h hosts ++ map (added_on n) files
added_from-push h n [] host files at =
    let here : n ≡ h = omega (arith, at) in
    append-nil (map (added_on h) files) ∙ ap (λ k. map (added_on k) files) (sym here)
added_from-push h n (x ∷ hosts) host files at =
    ap (λ fs. map (added_on h) x.1 ++ fs) (added_from-push (h + 1) n hosts host files (omega (arith, at)))
    ∙ sym (append_assoc (map (added_on h) x.1) (added_from (h + 1) hosts) (map (added_on n) files))
