-- What a check tells that is refused once all inventories were read.
use Rattle.std.proofs.Common.{◌≡◌, ◌+◌, ◌++◌, ◌∷◌, [], ℕ, zero, suc, List, length, map, Result, Ok, Err, Some, refl, sym, ap, subst, ◌∙◌, arith, inl, inr, append_assoc, length-append}
use Rattle.std.specs.List.{slice_get}
use Rattle.std.specs.Option.{option_map}
use Rattle.std.proofs.lemmas.List.{append_cancel_left, length-map}
use Rattle.std.proofs.lemmas.Option.{same_Some, slice_get-map, slice_get_within}
use Rattle.idtext.specs.First.{◌>>=◌, each}
use Rattle.certcheck.specs.Reading.{certificate_in}
use Rattle.mtree_inv.specs.declared.entry.Entry.{Entry}
use Rattle.hosts_join.specs.declared.host.Host.{Host}
use Rattle.hosts_join.specs.declared.texts.HostText.{HostText}
use Rattle.unify_texts.specs.declared.fault.Fault.{Fault}
use Rattle.unify.specs.Checking.{checked}
use Rattle.unify.specs.Count.{site_of}
use Rattle.site_tables.specs.FileLaws.{AreItsFiles}
use Rattle.site_tables.specs.Hosts.{files_of}
use Rattle.site_tables.specs.Loading.{loaded_from}
use Rattle.unify.specs.Outcomes.{hosts_in}
use Rattle.site_tables.specs.Begun.{BegunSite, site_begun}
use Rattle.unify.specs.Passes.{is_read}
use Rattle.unify.specs.Reading.{WholeSite, site_read}
use Rattle.unify.specs.Told.{in_certificate}
use Rattle.site_tables.specs.declared.host.Loaded.{Loaded}
use Rattle.site_tables.specs.declared.rules.SiteRules.{SiteRules}
use Rattle.site_tables.proofs.FileLaws.{files_are_of_inventories}
use Rattle.unify_laws.proofs.Agreeing.{item_at}
use Rattle.unify_laws.proofs.OnePiece.{at_end}
use Rattle.unify_laws.proofs.TwoPasses.{site_is}
use Rattle.unify_merge.specs.Check.{IsCheckFault}
use Rattle.unify_merge.specs.FirstReading.{IsFirstFault, IsInventoryFault, WereEachRead, readings_from, with_inventories}
use Rattle.unify_merge.specs.Ledger.{Ledger, Reading}
use Rattle.unify_merge.specs.ReadTexts.{HaveReadFiles, IsOfGiven, RefusedChecksGoByRead}
use Rattle.unify_merge.proofs.Checked.{answer_of_site}
use Rattle.unify_merge.proofs.Inventories.{begun-with, mtrees-with}
use Rattle.unify_merge.proofs.ReadTexts.{length-readings_from}
use Rattle.unify_merge.proofs.Refusals.{is_fault}

-- the text of a reading
text_of_reading : (k : ℕ) (texts : List (List ℕ)) (j : ℕ) (r : Reading) → slice_get (readings_from k texts) j ≡ Some r → slice_get texts j ≡ Some r.text
text_of_reading k [] j r at = absurd (cc)
text_of_reading k (t ∷ texts) zero r at = ap (option_map (λ (x : Reading). x.text)) at
text_of_reading k (t ∷ texts) (suc j) r at = text_of_reading (k + 1) texts j r at

-- hosts each of which has the files of its inventory
accepted_back : (texts : List (List ℕ)) (read : List (Host × List Entry)) → length texts ≡ length read
    → ((h : ℕ) (host : Host) (files : List Entry) → slice_get read h ≡ Some (host, files) → (text : List ℕ) × (slice_get texts h ≡ Some text) × (files_of (record { host = host; mtree = text }) ≡ Ok files))
    → each site_of (loaded_from (map (λ h. h.0) read) texts) ≡ Ok read
unfolding each
accepted_back [] [] same each_one = refl
accepted_back [] (r ∷ read) same each_one = absurd (omega (arith, same))
accepted_back (t ∷ texts) [] same each_one = absurd (omega (arith, same))
accepted_back (t ∷ texts) (r ∷ read) same each_one =
    let it = each_one zero r.0 r.1 refl in
    let text : t ≡ it.0 = same_Some t it.0 it.1 in
    let mine : files_of (record { host = r.0; mtree = t }) ≡ Ok r.1 = ap (λ x. files_of (record { host = r.0; mtree = x })) text ∙ it.2 in
    let rest = accepted_back texts read (omega (arith, same)) (λ h. each_one (suc h)) in
    let more : Result (List (Host × List Entry)) Fault = each site_of (loaded_from (map (λ (h : Host × List Entry). h.0) read) texts) in
    ap (λ (o : Result (List Entry) Fault). (o >>= λ fs. Ok (r.0, fs)) >>= λ y. more >>= λ ys. Ok (y ∷ ys)) mine ∙ ap (λ (o : Result (List (Host × List Entry)) Fault). o >>= λ ys. Ok (r ∷ ys)) rest

-- an inventory that has files has no fault
no_fault_at : (f : Fault) (host same : Host) (text equal : List ℕ) (files : List Entry) → same ≡ host → equal ≡ text → AreItsFiles (record { host = same; mtree = equal }) files → is_read (files_of (record { host = host; mtree = text })) ≡ Err f → ⊥
no_fault_at f host same text equal files is_host is_text are bad =
    let l : Loaded = record { host = same; mtree = equal } in
    let good : is_read (files_of l) ≡ Ok tt = ap is_read ((files_are_of_inventories l files).1 are) in
    let is_fault : is_read (files_of l) ≡ Err f = subst (λ (h : Host). is_read (files_of (record { host = h; mtree = equal })) ≡ Err f) (sym is_host)
    (subst (λ (t : List ℕ). is_read (files_of (record { host = host; mtree = t })) ≡ Err f) (sym is_text) bad) in
    absurd (cc)

module _ (texts : List HostText) (rules : SiteRules) (old new : Ledger) (f : Fault) (site : WholeSite) (given : IsOfGiven texts rules site) (were : HaveReadFiles texts site.hosts old.read new.read) where
  abbrev begun : BegunSite
  begun = record { hosts = hosts_in site; joined = site.joined }

  -- one that was read has none
  no_fault_of : (host : Host) (text : List ℕ) (k : ℕ) (before : List (List ℕ)) → slice_get (hosts_in site) k ≡ Some host → k ≡ length before → new.read ≡ (old.read ++ readings_from 0 before) ++ record { host = k; text = text } ∷ []
      → is_read (files_of (record { host = host; mtree = text })) ≡ Err f → ⊥
  no_fault_of host text k before here is read bad =
      let r : Reading = record { host = k; text = text } in
      let first : Host × List Entry → Host = λ h. h.0 in
      let at = item_at site.hosts k (omega (arith, slice_get_within (hosts_in site) k host here, length-map site.hosts first)) in
      let named : at.0.0 ≡ host = same_Some at.0.0 host (sym (slice_get-map first site.hosts k ∙ ap (option_map first) at.1) ∙ here) in
      let mine = were.files k at.0.0 at.0.1 at.1 in
      let same : were.readings ≡ readings_from 0 before ++ r ∷ [] = append_cancel_left old.read were.readings (readings_from 0 before ++ r ∷ []) (sym were.no_other ∙ read ∙ append_assoc old.read (readings_from 0 before) (r ∷ [])) in
      let there : slice_get were.readings k ≡ Some r = ap (λ rs. slice_get rs k) same ∙ at_end (readings_from 0 before) r k (omega (arith, is, length-readings_from 0 before)) in
      let equal : mine.0 ≡ text = same_Some mine.0 text (ap (option_map (λ (x : Reading). x.text)) (sym mine.1 ∙ there)) in
      no_fault_at f host at.0.0 text mine.0 at.0.1 named equal mine.2 bad

  not_at : (host : Host) (before : List (List ℕ)) → slice_get (hosts_in site) (length before) ≡ Some host → IsFirstFault host (length before) (old.read ++ readings_from 0 before) new f → ⊥
  not_at host before here (text, inr (read, bad)) = no_fault_of host text (length before) before here refl read bad
  not_at host before here (text, inl (reading, bad)) =
      let first : Host × List Entry → Host = λ h. h.0 in
      omega (
        arith,
        slice_get_within (hosts_in site) (length before) host here,
        length-map site.hosts first,
        were.all_hosts,
        were.one_each,
        ap length were.no_other,
        ap length reading.0,
        length-append old.read were.readings,
        length-append old.read (readings_from 0 before),
        length-readings_from 0 before,
      )

  no_inventory_fault : (other : BegunSite) → site_begun texts rules ≡ Ok other → IsInventoryFault other.hosts old new f → ⊥
  no_inventory_fault other is fault =
      let same : other ≡ begun = let both : ◌≡◌ {A = Result BegunSite Fault} (Ok other) (Ok begun) = sym is ∙ given in cc in
      not_at fault.host fault.texts (ap (λ (b : BegunSite). slice_get b.hosts (length fault.texts)) (sym same) ∙ fault.here) fault.fault

  -- the site is that of these inventories
  site_of_read : (read : List (List ℕ)) → WereEachRead texts read old new → site_read (with_inventories texts read) rules ≡ Ok site
  site_of_read read all =
      let same : were.readings ≡ readings_from 0 read = append_cancel_left old.read were.readings (readings_from 0 read) (sym were.no_other ∙ all.readings) in
      let accepted : each site_of (loaded_from (hosts_in site) read) ≡ Ok site.hosts =
      accepted_back read site.hosts (all.one_each ∙ sym were.all_hosts) (λ h host files here.
      let it = were.files h host files here in
      (it.0, text_of_reading 0 read h (record { host = h; text = it.0 }) (ap (λ rs. slice_get rs h) (sym same) ∙ it.1), (files_are_of_inventories (record { host = host; mtree = it.0 }) files).1 it.2)) in
      site_is (with_inventories texts read) rules begun site.hosts (begun-with texts read rules all.one_each ∙ given) (ap (λ ts. each site_of (loaded_from (hosts_in site) ts)) (mtrees-with texts read all.one_each) ∙ accepted)

  of_certificate : (certificate : List ℕ) → IsCheckFault texts rules certificate old new f → checked site (in_certificate (certificate_in certificate)) ≡ Err f
  of_certificate certificate (inl (refused, same)) = absurd (let both : ◌≡◌ {A = Result BegunSite Fault} (Ok begun) (Err f) = sym given ∙ refused in cc)
  of_certificate certificate (inr (inl (other, is, fault))) = absurd (no_inventory_fault other is fault)
  of_certificate certificate (inr (inr (read, all, refused))) = sym (answer_of_site (with_inventories texts read) rules certificate site (site_of_read read all)) ∙ refused

pub refused_checks_go_by_read : RefusedChecksGoByRead
refused_checks_go_by_read texts rules certificate old new f site other stops given were =
    of_certificate texts rules old new f site given were certificate (is_fault (IsCheckFault texts rules certificate old new) new f other stops)
