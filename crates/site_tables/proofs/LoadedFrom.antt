-- Hosts with the texts of their inventories.
use Rattle.std.proofs.Common.{◌≡◌, ℕ, suc, List, [], ◌∷◌, length, map, refl, ap, arith}
use Rattle.hosts_join.specs.declared.host.Host.{Host}
use Rattle.site_tables.specs.declared.host.Loaded.{Loaded}
use Rattle.site_tables.specs.Loading.{loaded_from}

pub length-loaded_from : (hosts : List Host) (mtrees : List (List ℕ)) → length mtrees ≡ length hosts → length (loaded_from hosts mtrees) ≡ length hosts
length-loaded_from [] mtrees same = refl
length-loaded_from (host ∷ hosts) [] same = absurd (omega (arith, same))
length-loaded_from (host ∷ hosts) (mtree ∷ mtrees) same = ap suc (length-loaded_from hosts mtrees (omega (arith, same)))

pub loaded_from-parts : (loaded : List Loaded) → loaded_from (map (λ l. l.host) loaded) (map (λ l. l.mtree) loaded) ≡ loaded
loaded_from-parts [] = refl
loaded_from-parts (l ∷ loaded) = ap (λ t. l ∷ t) (loaded_from-parts loaded)

-- hosts with texts are these hosts
pub loaded_hosts : (hosts : List Host) (mtrees : List (List ℕ)) → length mtrees ≡ length hosts → map (λ l. l.host) (loaded_from hosts mtrees) ≡ hosts
loaded_hosts [] mtrees same = refl
loaded_hosts (host ∷ hosts) [] same = absurd (omega (arith, same))
loaded_hosts (host ∷ hosts) (mtree ∷ mtrees) same = ap (λ t. host ∷ t) (loaded_hosts hosts mtrees (omega (arith, same)))

-- and have these texts
pub loaded_mtrees : (hosts : List Host) (mtrees : List (List ℕ)) → length mtrees ≡ length hosts → map (λ l. l.mtree) (loaded_from hosts mtrees) ≡ mtrees
loaded_mtrees [] [] same = refl
loaded_mtrees [] (mtree ∷ mtrees) same = absurd (omega (arith, same))
loaded_mtrees (host ∷ hosts) [] same = absurd (omega (arith, same))
loaded_mtrees (host ∷ hosts) (mtree ∷ mtrees) same = ap (λ t. mtree ∷ t) (loaded_mtrees hosts mtrees (omega (arith, same)))
