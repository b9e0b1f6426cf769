-- A check, a count and a merge go by the inventories that they read.
use Rattle.std.proofs.Common.{◌≡◌, ◌+◌, ◌-◌, ◌++◌, ◌∷◌, [], ℕ, zero, suc, List, length, drop, Some, Ok, refl, sym, ap, subst, ◌∙◌, arith, zero-add}
use Rattle.std.specs.List.{slice_get}
use Rattle.std.specs.Option.{option_map}
use Rattle.std.proofs.lemmas.Option.{same_Some}
use Rattle.idtext.specs.First.{each}
use Rattle.idtext.proofs.OkLemmas.{bind_ok, each-ok, length-each, ok_same}
use Rattle.mtree_inv.specs.declared.entry.Entry.{Entry}
use Rattle.hosts_join.specs.Checks.{hosts_checked}
use Rattle.hosts_join.specs.declared.host.Host.{Host}
use Rattle.hosts_join.specs.declared.texts.HostText.{HostText}
use Rattle.site_tables.specs.Mapped.{BegunCost, cost_begun, mapped_names}
use Rattle.unify.specs.Count.{site_of}
use Rattle.unify.specs.CountLaws.{IsCounted}
use Rattle.site_tables.specs.FileLaws.{AreItsFiles}
use Rattle.site_tables.specs.Hosts.{files_of}
use Rattle.site_tables.specs.Loading.{loaded_from}
use Rattle.site_tables.specs.Others.{others_loaded}
use Rattle.site_tables.specs.Begun.{BegunSite, site_begun}
use Rattle.site_tables.specs.Told.{in_site}
use Rattle.site_tables.specs.declared.host.Loaded.{Loaded}
use Rattle.site_tables.specs.declared.rules.KeepRules.{KeepRules}
use Rattle.site_tables.specs.declared.rules.SiteRules.{SiteRules}
use Rattle.site_tables.proofs.LoadedFrom.{length-loaded_from}
use Rattle.unify.proofs.CountLaws.{changed_files_are_counted}
use Rattle.site_tables.proofs.FileLaws.{files_are_of_inventories}
use Rattle.site_tables.proofs.ReadSites.{as-many-others}
use Rattle.site_tables.proofs.SiteSteps.{begun_is}
use Rattle.unify.proofs.Whole.{hosts_held}
use Rattle.unify_laws.proofs.HostTexts.{begun_steps}
use Rattle.unify_laws.proofs.WholeSites.{hosts-are, steps}
use Rattle.unify_merge.specs.FirstReading.{readings_from, with_inventories}
use Rattle.unify_merge.specs.Ledger.{Reading}
use Rattle.unify_merge.specs.ReadTexts.{BrokenMergesGoByRead, ChecksGoByRead, CountsGoByRead, HasFilesIn, HaveReadFiles, MergesGoByRead}
use Rattle.unify_merge.proofs.Inventories.{begun-with, cost_begun-with, length-with, mtrees-with}
use Rattle.unify_merge.proofs.ReadLast.{at_drop, at_second, in_front}

-- ---- readings

pub length-readings_from : (k : ℕ) (texts : List (List ℕ)) → length (readings_from k texts) ≡ length texts
length-readings_from k [] = refl
length-readings_from k (t ∷ texts) = ap suc (length-readings_from (k + 1) texts)

-- j: where it stands among them
pub reading_at : (k j h : ℕ) (texts : List (List ℕ)) (text : List ℕ) → h ≡ k + j → slice_get texts j ≡ Some text → slice_get (readings_from k texts) j ≡ Some (record { host = h; text = text })
reading_at k j h [] text same at = absurd (cc)
reading_at k zero h (t ∷ texts) text same at =
    let index : k ≡ h = omega (arith, same) in
    let is : t ≡ text = same_Some t text at in
    λ i. Some (record { host = index i; text = is i })
reading_at k (suc j) h (t ∷ texts) text same at = reading_at (k + 1) j h texts text (omega (arith, same)) at

text_at : (hosts : List Host) (texts : List (List ℕ)) (k : ℕ) (l : Loaded) → slice_get (loaded_from hosts texts) k ≡ Some l → slice_get texts k ≡ Some l.mtree
text_at [] texts k l at = absurd (cc)
text_at (host ∷ hosts) [] k l at = absurd (cc)
text_at (host ∷ hosts) (text ∷ texts) zero l at = ap (option_map (λ (x : Loaded). x.mtree)) at
text_at (host ∷ hosts) (text ∷ texts) (suc k) l at = text_at hosts texts k l at

-- ---- the files of hosts

module _ (hosts : List Host) (texts : List (List ℕ)) (read : List (Host × List Entry)) (are : each site_of (loaded_from hosts texts) ≡ Ok read) where
  its_text : (h : ℕ) (host : Host) (files : List Entry) → slice_get read h ≡ Some (host, files) → (text : List ℕ) × (slice_get texts h ≡ Some text) × AreItsFiles (record { host = host; mtree = text }) files
  its_text h host files here =
      let from = each-ok site_of (loaded_from hosts texts) read are h (host, files) here in
      let l = from.0 in
      let filed = bind_ok (files_of l) (λ fs. Ok (l.host, fs)) (host, files) from.2 in
      let pair : (l.host, filed.0) ≡ (host, files) = ok_same (l.host, filed.0) (host, files) filed.2 in
      let mine : AreItsFiles l filed.0 = (files_are_of_inventories l filed.0).0 filed.1 in
      (l.mtree, text_at hosts texts h l from.1, subst (λ (p : Host × List Entry). AreItsFiles (record { host = p.0; mtree = l.mtree }) p.1) pair mine)

  its_files : (h : ℕ) (host : Host) (files : List Entry) → slice_get read h ≡ Some (host, files) → HasFilesIn (readings_from 0 texts) h host files
  its_files h host files here =
      let it = its_text h host files here in
      (it.0, reading_at 0 h h texts it.0 (sym (zero-add h)) it.1, it.2)

  pub have_read : (given : List HostText) (before after : List Reading) → length texts ≡ length hosts → length hosts ≡ length given → after ≡ before ++ readings_from 0 texts → HaveReadFiles given read before after
  have_read given before after one_each each_host readings = record {
    readings = readings_from 0 texts;
    no_other = readings;
    one_each = length-readings_from 0 texts ∙ one_each ∙ each_host;
    all_hosts = length-each site_of (loaded_from hosts texts) read are ∙ length-loaded_from hosts texts one_each ∙ each_host;
    files = its_files;
  }

-- ---- commands

pub checks_go_by_read : ChecksGoByRead
checks_go_by_read texts rules certificate old new cost c =
    let site = c.means.site in
    let one_each = c.were_read.one_each in
    let with_read = with_inventories texts c.texts in
    let s = steps with_read rules site c.means.read in
    let before = begun_is with_read rules s.listed (ap in_site s.listed_are) s.others s.others_are site.joined s.joined_is in
    let each_host : length s.others.hosts ≡ length texts = as-many-others with_read rules.keep s.others s.others_are ∙ length-with texts c.texts one_each in
    let are : each site_of (loaded_from s.others.hosts c.texts) ≡ Ok site.hosts = ap (λ ts. each site_of (loaded_from s.others.hosts ts)) (sym (mtrees-with texts c.texts one_each)) ∙ s.files_are in (
      sym (begun-with texts c.texts rules one_each) ∙ before ∙ ap (λ hs. Ok (record { hosts = hs; joined = site.joined })) (hosts-are with_read rules site s),
      have_read s.others.hosts c.texts site.hosts are texts old.read new.read (one_each ∙ sym each_host) each_host c.were_read.readings,
    )

-- a map is counted for as many hosts as there are texts
as-many-counted : (texts : List HostText) (keep : KeepRules) (map_text : List ℕ) (begun : BegunCost) → cost_begun texts keep map_text ≡ Ok begun → length begun.hosts ≡ length texts
unfolding cost_begun
as-many-counted texts keep map_text begun is =
    let listed = bind_ok (in_site (hosts_checked texts)) _ begun is in
    let others = bind_ok (others_loaded texts keep) _ begun listed.2 in
    let naming = bind_ok (mapped_names map_text others.0.hosts) _ begun others.2 in
    let made : BegunCost = record { hosts = others.0.hosts; names = naming.0 } in
    ap (λ (b : BegunCost). length b.hosts) (sym (ok_same made begun naming.2)) ∙ as-many-others texts keep others.0 others.1

pub counts_go_by_read : CountsGoByRead
counts_go_by_read texts keep map_text old new cost c =
    let one_each = c.were_read.one_each in
    let with_read = with_inventories texts c.texts in
    let is : IsCounted with_read keep map_text cost = (changed_files_are_counted with_read keep map_text cost).0 c.answer in
    let before : cost_begun texts keep map_text ≡ Ok is.begun = sym (cost_begun-with texts c.texts keep map_text one_each) ∙ is.begun_is in
    let each_host = as-many-counted texts keep map_text is.begun before in
    let are : each site_of (loaded_from is.begun.hosts c.texts) ≡ Ok is.sites = ap (λ ts. each site_of (loaded_from is.begun.hosts ts)) (sym (mtrees-with texts c.texts one_each)) ∙ is.read in
    record {
      begun = is.begun;
      begun_is = before;
      hosts = is.sites;
      hosts_are = sym (hosts_held is.begun.hosts c.texts is.sites (one_each ∙ sym each_host) are).0;
      were_read = have_read is.begun.hosts c.texts is.sites are texts old.read new.read (one_each ∙ sym each_host) each_host c.were_read.readings;
      users = is.users;
      groups = is.groups;
    }

-- a site is begun of as many hosts as there are texts
pub as-many-begun : (texts : List HostText) (rules : SiteRules) (begun : BegunSite) → site_begun texts rules ≡ Ok begun → length begun.hosts ≡ length texts
as-many-begun texts rules begun is =
    let s = begun_steps texts rules begun is in
    sym (ap length s.hosts) ∙ as-many-others texts rules.keep s.others s.others_are

pub merges_go_by_read : MergesGoByRead
merges_go_by_read texts rules old new cost m =
    let each_host = as-many-begun texts rules m.begun m.begun_is in
    let once = old.read ++ readings_from 0 m.first in
    record {
      given = m.begun_is ∙ ap (λ hs. Ok (record { hosts = hs; joined = m.begun.joined })) (hosts_held m.begun.hosts m.second m.are m.second_read.one_each m.second_read.accepted).0;
      middle = once;
      first = have_read m.begun.hosts m.first m.were m.first_read.accepted texts old.read once m.first_read.one_each each_host refl;
      second = have_read m.begun.hosts m.second m.are m.second_read.accepted texts once new.read m.second_read.one_each each_host m.readings;
    }

pub broken_merges_go_by_read : BrokenMergesGoByRead
unfolding have_read
broken_merges_go_by_read texts rules old new b =
    let each_host = as-many-begun texts rules b.begun b.begun_is in
    let left = drop (length b.again) b.first in
    let texts_last = b.again ++ left in
    let many = length-readings_from 0 b.again in
    record {
      given = b.begun_is ∙ ap (λ hs. Ok (record { hosts = hs; joined = b.begun.joined })) (hosts_held b.begun.hosts texts_last b.last b.last_read.one_each b.last_read.accepted).0;
      middle = old.read ++ readings_from 0 b.first;
      once = have_read b.begun.hosts b.first b.were b.first_read.accepted texts old.read (old.read ++ readings_from 0 b.first) b.first_read.one_each each_host refl;
      again = readings_from 0 b.again;
      as_many = many;
      besides = b.reads.more;
      one_at_most = b.reads.one_at_most;
      no_other = b.reads.readings;
      first = λ h host files here less.
          let it = its_text b.begun.hosts texts_last b.last b.last_read.accepted h host files here in
          (it.0, reading_at 0 h h b.again it.0 (sym (zero-add h)) (in_front b.again left h it.0 (omega (arith, less, many)) it.1), it.2);
      others = λ h host files here more.
          let it = its_text b.begun.hosts texts_last b.last b.last_read.accepted h host files here in
          let past : slice_get b.first h ≡ Some it.0 = sym (at_second b.again left h (h - length b.again) (omega (arith, more, many)) ∙ at_drop (length b.again) b.first (h - length b.again) h (omega (arith, more, many))) ∙ it.1 in
          (it.0, reading_at 0 h h b.first it.0 (sym (zero-add h)) past, it.2);
    }
