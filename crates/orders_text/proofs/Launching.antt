-- A launch and the parts of its line.
use Rattle.std.proofs.Common.{◌≡◌, ℕ, List, [], ◌∷◌, ◌++◌, decimal, codes, sym, ap, ◌∙◌, arith, append_assoc}
use Rattle.reply_data.specs.declared.orders.Launch.{Launch}
use Rattle.request_data.specs.declared.report.Start.{Start}
use Rattle.orders_text.specs.Amounts.{FitsAmounts, amounts_text}
use Rattle.slurm_print.specs.Orders.{launch_line, number_or_dash, start_text}
use Rattle.table_texts.specs.Ranges.{ranges_text}
use Rattle.orders_text.specs.Fields.{AreCpus, FitsStart, IsField}
use Rattle.orders_text.specs.Orders.{FitsLaunch}
use Rattle.orders_text.specs.declared.order.Amounts.{Amounts}
use Rattle.orders_text.proofs.Runs.{cpus_lack}

parts_assoc : (s c m r e : List ℕ)
    → codes "launch " ++ s ++ codes " cpus=" ++ c ++ codes " mem=" ++ m ++ codes " run=" ++ r ++ codes " exit=" ++ e ++ codes "\n"
    ≡ codes "launch " ++ (s ++ 32 ∷ (codes "cpus=" ++ (c ++ 32 ∷ (codes "mem=" ++ (m ++ 32 ∷ (codes "run=" ++ (r ++ 32
    ∷ (codes "exit=" ++ (e ++ 10 ∷ [])))))))))
parts_assoc s c m r e = simp append_assoc

abbrev pub amounts_of : Launch → Amounts
amounts_of launch = record { mem = launch.mem; run = launch.run; exit = launch.exit }

abbrev pub launch_with : Start → List ℕ → Amounts → Launch
launch_with start cpus amounts = record {
  start = start;
  cpus = cpus;
  mem = amounts.mem;
  run = amounts.run;
  exit = amounts.exit;
}

-- what stands behind a launch's start
abbrev pub behind_start : Launch → List ℕ
behind_start launch = codes "cpus=" ++ (ranges_text launch.cpus ++ 32 ∷ amounts_text (amounts_of launch))

pub launch_split : (launch : Launch) (line : List ℕ) → launch_line launch ≡ line
    → line ≡ codes "launch " ++ (start_text launch.start ++ 32 ∷ behind_start launch)
launch_split launch line is =
    sym is ∙ parts_assoc (start_text launch.start) (ranges_text launch.cpus) (decimal launch.mem) (number_or_dash launch.run)
    (number_or_dash launch.exit)

pub cpus_field : (launch : Launch) (behind : List ℕ) → FitsLaunch launch → behind ≡ behind_start launch
    → IsField behind (codes "cpus=") 32 (ranges_text launch.cpus) (amounts_text (amounts_of launch))
cpus_field launch behind fits is = record { cut = is; first = cpus_lack 32 launch.cpus (omega arith) fits.cpus }

pub fits_amounts : (launch : Launch) → FitsLaunch launch → FitsAmounts (amounts_of launch)
fits_amounts launch fits = record { mem = fits.mem; run = fits.run; exit = fits.exit; both = fits.both }

pub same_launch : (launch : Launch) (start : Start) (cpus : List ℕ) (amounts : Amounts) → start ≡ launch.start
    → cpus ≡ launch.cpus → amounts ≡ amounts_of launch → launch_with start cpus amounts ≡ launch
same_launch launch start cpus amounts s c a =
    ap (λ x. launch_with x cpus amounts) s ∙ ap (λ x. launch_with launch.start x amounts) c
    ∙ ap (λ x. launch_with launch.start launch.cpus x) a

pub launch_fits : (start : Start) (cpus : List ℕ) (amounts : Amounts) → FitsStart start → AreCpus cpus → FitsAmounts amounts
    → FitsLaunch (launch_with start cpus amounts)
launch_fits start cpus amounts s c a =
    record { start = s; cpus = c; mem = a.mem; run = a.run; exit = a.exit; both = a.both }

pub launch_says : (start : Start) (cpus : List ℕ) (amounts : Amounts) (line behind cpus_text rest : List ℕ)
    → line ≡ codes "launch " ++ (start_text start ++ 32 ∷ behind) → IsField behind (codes "cpus=") 32 cpus_text rest
    → ranges_text cpus ≡ cpus_text → amounts_text amounts ≡ rest → launch_line (launch_with start cpus amounts) ≡ line
launch_says start cpus amounts line behind cpus_text rest is field c a =
    parts_assoc (start_text start) (ranges_text cpus) (decimal amounts.mem) (number_or_dash amounts.run) (number_or_dash amounts.exit)
    ∙ ap (λ t. codes "launch " ++ (start_text start ++ 32 ∷ (codes "cpus=" ++ (t ++ 32 ∷ amounts_text amounts)))) c
    ∙ ap (λ t. codes "launch " ++ (start_text start ++ 32 ∷ (codes "cpus=" ++ (cpus_text ++ 32 ∷ t)))) a
    ∙ ap (λ t. codes "launch " ++ (start_text start ++ 32 ∷ t)) (sym field.cut) ∙ sym is
