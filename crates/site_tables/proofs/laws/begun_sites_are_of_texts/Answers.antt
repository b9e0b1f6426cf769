use Rattle.site_tables.proofs.TextLaws.{begun_counts_are_of_texts, begun_sites_are_of_texts}
use Rattle.site_tables.proofs.laws.begun_sites_are_of_texts.Goals as goal

pub returns : goal.returns
returns c = record { sites = begun_sites_are_of_texts; counts = begun_counts_are_of_texts }
