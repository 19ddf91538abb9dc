use Rattle.log_file.proofs.fields.+add_counts.Given as goal

abbrev pub decreases-add_counts : goal.decreases-add_counts
decreases-add_counts l = l.categories
