use Rattle.report_text.proofs.Text.+put_number.Given as goal

-- the number without its last digit is smaller
abbrev pub decreases-put_number : goal.decreases-put_number
decreases-put_number l = l.n
