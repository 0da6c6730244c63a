mod Asking
mod Hosts
mod Sbatch
